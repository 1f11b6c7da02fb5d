use Rattle.std.specs.Prelude.{IsTrue}
use Rattle.cert_text.proofs.Texts.{text_not_bad}
use Rattle.cert_text.proofs.line_laws.refused_nowhere.Goals as goal

pub returns : goal.returns
returns c texts = text_not_bad (λ lines. IsTrue (texts lines))
