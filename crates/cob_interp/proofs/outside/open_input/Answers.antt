use Rattle.cob_interp.proofs.Closings.{refilled_opens}
use Rattle.cob_interp.proofs.outside.open_input.Goals as goal

pub returns-clause-only : goal.returns-clause-only
returns-clause-only g c = refilled_opens _ _ c.args.place _ c.set_content.ensures.value
