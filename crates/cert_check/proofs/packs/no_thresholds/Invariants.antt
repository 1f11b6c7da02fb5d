use Rattle.std.proofs.Common.{◌≡◌, [], length}
use Rattle.std.specs.List.{AllByRecursion}
use Rattle.cert_check.specs.Given.{AreEmptyLists}
use Rattle.cert_check.proofs.packs.no_thresholds.Given as goal

abbrev pub invariant-loop-pack : goal.invariant-loop-pack
invariant-loop-pack l = AreEmptyLists l._pack-index l.lists.items
