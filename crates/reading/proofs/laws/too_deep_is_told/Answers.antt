use Rattle.reading.proofs.BracketsLaw.{too_deep}
use Rattle.reading.proofs.laws.too_deep_is_told.Goals as goal

pub returns : goal.returns
returns c = too_deep
