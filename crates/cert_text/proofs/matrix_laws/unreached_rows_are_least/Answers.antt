use Rattle.cert_text.proofs.Standing.{rows_are_least}
use Rattle.cert_text.proofs.matrix_laws.unreached_rows_are_least.Goals as goal

pub returns : goal.returns
returns c = rows_are_least
