use Rattle.diff_bounds.proofs.Tight.{tight_of_closure}
use Rattle.diff_bounds.proofs.matrix.closure_laws.closed_words_are_tight.Goals as goal

pub returns : goal.returns
returns c m d is closure settled at = tight_of_closure c.args.size m d is closure settled at
