use Rattle.std.specs.Prelude.{IsTrue}
use Rattle.cert_text.proofs.Stops.{one_stop}
use Rattle.cert_text.proofs.line_laws.one_stop.Goals as goal

pub returns : goal.returns
returns g c lists = one_stop (λ xs. IsTrue (lists xs))
