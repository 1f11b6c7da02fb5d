use Rattle.std.proofs.Common.{IsTrue, ◌↔◌, subst}
use Rattle.interval_domain.specs.Known.{Known, KnownBelow}
use Rattle.interval_domain.specs.Rows.{cells_of, known_at}
use Rattle.interval_domain.proofs.order.cell_leq.Goals as goal

pub returns : goal.returns
returns c =
    subst (λ (x : Known). IsTrue c.known_leq.result ↔ KnownBelow x (known_at (cells_of c.args.b.now) c.args.k)) c.known_at-known.ensures.value
    (subst (λ (y : Known). IsTrue c.known_leq.result ↔ KnownBelow c.known_at-known.result y) c.known_at-other.ensures.value c.known_leq.ensures)
