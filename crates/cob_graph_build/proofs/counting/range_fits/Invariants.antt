use Rattle.std.proofs.Common.{◌≡◌, ◌-◌}
use Rattle.cob_program.specs.ActView.{plain_program}
use Rattle.cob_graph_build.specs.Sizes.{range_fits}
use Rattle.cob_graph_build.specs.Tables.{is_in}
use Rattle.cob_graph_build.proofs.counting.range_fits.Given as goal

abbrev pub invariant-loop-place : goal.invariant-loop-place
invariant-loop-place l =
    range_fits (is_in l.table) l.lo l.hi (plain_program l.program) l.place (l.end - l.place)
    ≡ range_fits (is_in l.table) l.lo l.hi (plain_program l.program) l.from (l.end - l.from)
