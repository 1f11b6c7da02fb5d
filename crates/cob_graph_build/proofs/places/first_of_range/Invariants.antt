use Rattle.std.proofs.Common.{ℕ, ◌≡◌, ◌-◌}
use Rattle.cob_program.specs.ActView.{plain_program}
use Rattle.cob_graph.specs.Laid.{LaidParas}
use Rattle.cob_graph.specs.Places.{first_of_paras}
use Rattle.cob_graph_build.specs.Tables.{lay_paras}
use Rattle.cob_graph_build.proofs.places.first_of_range.Given as goal

abbrev pub invariant-loop-place : goal.invariant-loop-place
invariant-loop-place l = (copies : ℕ → ℕ → LaidParas) →
    first_of_paras (lay_paras (plain_program l.program) copies l.place (l.end - l.place)) l.at l.next
    ≡ first_of_paras (lay_paras (plain_program l.program) copies l.from (l.end - l.from)) l.at l.next
