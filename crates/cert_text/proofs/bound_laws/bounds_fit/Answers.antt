use Rattle.cert_text.proofs.Fitting.{bounds_are_fit}
use Rattle.cert_text.proofs.bound_laws.bounds_fit.Goals as goal

pub returns : goal.returns
returns c = bounds_are_fit
