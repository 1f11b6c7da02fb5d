use Rattle.cert_text.proofs.Texts.{cut_text}
use Rattle.cert_text.proofs.line_laws.cut_again.Goals as goal

pub returns : goal.returns
returns c = cut_text
