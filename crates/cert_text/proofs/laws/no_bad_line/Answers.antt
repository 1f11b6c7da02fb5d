use Rattle.cert_text.proofs.WholeText.{never_bad}
use Rattle.cert_text.proofs.laws.no_bad_line.Goals as goal

pub returns : goal.returns
returns c = never_bad
