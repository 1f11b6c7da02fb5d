-- What a table leaves of an item's numbers has some.
use Rattle.std.proofs.Common.{◌≡◌, Option, Some, ◌≤ℤ◌, sym, subst, ◌∙◌}
use Rattle.std.specs.Prelude.{IfSome}
use Rattle.interval_domain.specs.declared.bounds.Interval.{Interval}
use Rattle.interval_domain.specs.Known.{IsOrdered}
use Rattle.transfer_ranges.specs.Results.{IsInside}
use Rattle.transfer_ranges.specs.Kept.{met}
use Rattle.cell_laws.proofs.Meetings.{table_cut}

pub met_is_ordered : (i t units : Interval) (o : Option Interval) → o ≡ met i t → o ≡ Some units → IsOrdered (Some units)
met_is_ordered i t units o is some =
    (subst (λ (q : Option Interval). IfSome q (λ w. IsInside w i × (w.low ≤ℤ w.high))) (sym is ∙ some) (table_cut i t)).1
