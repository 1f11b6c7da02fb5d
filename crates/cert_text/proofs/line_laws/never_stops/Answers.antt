use Rattle.std.specs.Prelude.{IsTrue}
use Rattle.cert_text.proofs.Stops.{never_stops}
use Rattle.cert_text.proofs.line_laws.never_stops.Goals as goal

pub returns : goal.returns
returns g c lists = never_stops (λ xs. IsTrue (lists xs))
