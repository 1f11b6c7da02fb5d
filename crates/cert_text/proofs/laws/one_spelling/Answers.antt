use Rattle.cert_text.proofs.WholeText.{one_spelling}
use Rattle.cert_text.proofs.laws.one_spelling.Goals as goal

pub returns : goal.returns
returns c = one_spelling
