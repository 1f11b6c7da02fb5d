use Rattle.std.proofs.Common.{◌≡◌, ◌+◌, ◌-◌, min}
use Rattle.cob_program.specs.ActView.{plain_program}
use Rattle.cob_graph.specs.Limits.{most_told}
use Rattle.cob_graph_build.specs.Sizes.{range_size}
use Rattle.cob_graph_build.specs.Tables.{size_in}
use Rattle.cob_graph_build.proofs.counting.range_size.Given as goal

abbrev pub invariant-loop-place : goal.invariant-loop-place
invariant-loop-place l =
    min (l.sum + range_size (size_in l.table) (plain_program l.program) l.place (l.end - l.place)) most_told
    ≡ min (range_size (size_in l.table) (plain_program l.program) l.from (l.end - l.from)) most_told
