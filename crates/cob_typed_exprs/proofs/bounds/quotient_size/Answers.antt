use Rattle.cob_typed_exprs.proofs.SizeLemmas.{positive_power}
use Rattle.cob_typed_exprs.proofs.bounds.quotient_size.Goals as goal

pub nonzero_div-n : goal.nonzero_div-n
nonzero_div-n c = positive_power _ _ c.ten.ensures
