use Rattle.std.proofs.Common.{◌≤◌, ◌+◌, ◌++◌, List, length}
use Rattle.cob_data.specs.Entries.{Placed, placed}
use Rattle.cob_data.specs.Reading.{Moves}
use Rattle.cob_data.proofs.entry.Table.read.Given as goal

abbrev pub invariant-loop-rest : goal.invariant-loop-rest
invariant-loop-rest l = record {
  fewer : length l.self.items.items + length l.rest ≤ length l.initial.self.items.items + length l.entries;
  moves : (later : List Placed) → Moves l.initial.self l.self (placed l.area l.entries ++ later) (placed l.area l.rest ++ later);
}

abbrev pub decreases-loop-rest : goal.decreases-loop-rest
decreases-loop-rest l = length l.rest
