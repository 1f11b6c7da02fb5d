use Rattle.std.proofs.Common.{◌≡◌}
use Rattle.std.specs.Prelude.{◌==◌}
use Rattle.std.specs.List.{filter, range_with_len}
use Rattle.analyse_core.specs.Firsts.{holds}
use Rattle.analyse_core.proofs.choice.rising.Given as goal

abbrev pub invariant-loop-k : goal.invariant-loop-k
invariant-loop-k l = l.list.items ≡ filter (holds (λ a b. a == b) l.cells) (range_with_len 1 l.k)
