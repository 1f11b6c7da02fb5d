use Rattle.std.proofs.Common.{sym, ◌∙◌}
use Rattle.cob_interp.proofs.FitLemmas.{spends_at}
use Rattle.cob_interp.proofs.walk.end_at.Goals as goal

pub returns : goal.returns
returns c start now w here =
    spends_at c.args.setting.now c.args.budget c.args.node c.requires.ready c.requires.rest
    (sym c.is_final.ensures ∙ c.if-is_final.false) start now w here
