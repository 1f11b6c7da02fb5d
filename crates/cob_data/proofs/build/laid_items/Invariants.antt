use Rattle.std.proofs.Common.{◌≡◌, ◌++◌, drop}
use Rattle.cob_data.specs.Layouts.{laid_items}
use Rattle.cob_data.specs.Known.{AreLow}
use Rattle.cob_data.proofs.build.laid_items.Given as goal

abbrev pub invariant-loop-place : goal.invariant-loop-place
invariant-loop-place l = record {
  same : l.laid.items ++ laid_items (drop l.place l.items) (drop l.place l.spots) ≡ laid_items l.items l.spots;
  low : AreLow (drop l.place l.spots);
}
