use Rattle.cert_text.proofs.Lengths.{text_is_short}
use Rattle.cert_text.proofs.laws.texts_of_certificates_are_short.Goals as goal

pub returns : goal.returns
returns c = text_is_short
