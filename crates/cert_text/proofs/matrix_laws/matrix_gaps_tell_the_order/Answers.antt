use Rattle.cert_text.proofs.MatrixTelling.{gaps_tell}
use Rattle.cert_text.proofs.matrix_laws.matrix_gaps_tell_the_order.Goals as goal

pub returns : goal.returns
returns c = gaps_tell
