use Rattle.cert_text.proofs.Standing.{rows_are_elements}
use Rattle.cert_text.proofs.matrix_laws.claimed_rows_are_elements.Goals as goal

pub returns : goal.returns
returns c = rows_are_elements
