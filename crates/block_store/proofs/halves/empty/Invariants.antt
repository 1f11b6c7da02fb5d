use Rattle.std.proofs.Common.{◌≡◌, ◌≤◌}
use Rattle.block_store.proofs.SlotsLemmas.{Emptying}
use Rattle.block_store.proofs.halves.empty.Given as goal

abbrev pub invariant-loop-i : goal.invariant-loop-i
invariant-loop-i l = (l.cells.at ≡ l.initial.cells.at) × (l.i ≤ l.len) × Emptying l.cells.slots l.len l.i
