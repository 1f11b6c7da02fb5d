use Rattle.std.specs.Prelude.{IsTrue}
use Rattle.cert_text.proofs.Texts.{one_bad}
use Rattle.cert_text.proofs.line_laws.one_line.Goals as goal

pub returns : goal.returns
returns c texts = one_bad (λ lines. IsTrue (texts lines))
