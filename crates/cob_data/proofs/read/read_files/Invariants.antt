use Rattle.std.proofs.Common.{◌≤◌, ◌+◌, ◌++◌, List, length, drop}
use Rattle.cob_data.specs.Entries.{Placed, file_entries}
use Rattle.cob_data.specs.Reading.{Moves}
use Rattle.cob_data.proofs.read.read_files.Given as goal

abbrev pub invariant-loop-place : goal.invariant-loop-place
invariant-loop-place l = record {
  room : length l.table.items.items + length (file_entries l.place (drop l.place l.fds)) ≤ length l.initial.table.items.items + length (file_entries 0 l.fds);
  moves : (later : List Placed) → Moves l.initial.table l.table (file_entries 0 l.fds ++ later) (file_entries l.place (drop l.place l.fds) ++ later);
}
