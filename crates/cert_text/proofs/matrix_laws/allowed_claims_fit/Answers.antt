use Rattle.cert_text.proofs.Allowing.{claims_fit_there}
use Rattle.cert_text.proofs.matrix_laws.allowed_claims_fit.Goals as goal

pub returns : goal.returns
returns c = claims_fit_there
