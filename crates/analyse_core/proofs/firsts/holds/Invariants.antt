use Rattle.std.proofs.Common.{◌≡◌, drop}
use Rattle.std.specs.Prelude.{◌==◌}
use Rattle.analyse_core.specs.Firsts.{holds}
use Rattle.analyse_core.proofs.firsts.holds.Given as goal

abbrev pub invariant-loop-other : goal.invariant-loop-other
invariant-loop-other l = holds (λ a b. a == b) (drop l.other-index l.list) l.number ≡ holds (λ a b. a == b) l.list l.number
