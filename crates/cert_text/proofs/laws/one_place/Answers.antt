use Rattle.cert_text.proofs.Texts.{one_bad}
use Rattle.cert_text.specs.Texts.{IsText}
use Rattle.cert_text.proofs.laws.one_place.Goals as goal

pub returns : goal.returns
returns c = one_bad IsText
