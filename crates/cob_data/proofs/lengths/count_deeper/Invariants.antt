use Rattle.std.proofs.Common.{◌≡◌, ◌+◌, drop}
use Rattle.std.specs.List.{prefix_len}
use Rattle.cob_data.specs.Lengths.{is_deeper}
use Rattle.cob_data.proofs.lengths.count_deeper.Given as goal

abbrev pub invariant-loop-place : goal.invariant-loop-place
invariant-loop-place l = l.place + prefix_len (is_deeper l.level) (drop l.place l.items) ≡ prefix_len (is_deeper l.level) l.items
