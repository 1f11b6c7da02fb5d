use Rattle.cert_text.proofs.MatrixTelling.{gaps_are_of}
use Rattle.cert_text.proofs.matrix_laws.gaps_are_of_bounds.Goals as goal

pub returns : goal.returns
returns c = gaps_are_of
