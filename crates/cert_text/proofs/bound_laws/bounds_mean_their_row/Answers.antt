use Rattle.cert_text.proofs.Meaning.{bounds_mean}
use Rattle.cert_text.proofs.bound_laws.bounds_mean_their_row.Goals as goal

pub returns : goal.returns
returns c = bounds_mean
