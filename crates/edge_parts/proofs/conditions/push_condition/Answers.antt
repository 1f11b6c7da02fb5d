use Rattle.std.proofs.Common.{sym, ap, ◌∙◌}
use Rattle.cob_program.specs.ActView.{plain_act, plain_program}
use Rattle.cob_edge_parts.specs.Parts.{test_parts}
use Rattle.edge_parts.specs.PartView.{plain_part}
use Rattle.edge_parts.proofs.EdgeLemmas.{times_condition, simple_condition}
use Rattle.edge_parts.proofs.HandingLaws.{takes_same}
use Rattle.edge_parts.proofs.conditions.push_condition.Goals as goal

pub returns-then-is_times : goal.returns-then-is_times
returns-then-is_times c = λ place is.
    let x = c.args in
    takes_same plain_part _ _ _ _ _
    (times_condition (plain_program x.program.now) x.number x.holds place (plain_act x.act.now)
    (sym c.is_times.ensures ∙ c.if-is_times.true))
    c.push_turns.ensures

pub returns-else-is_times : goal.returns-else-is_times
returns-else-is_times c = λ place is.
    let x = c.args in
    takes_same plain_part _ _ _ _ _
    (simple_condition (plain_program x.program.now) x.number x.holds place (plain_act x.act.now)
    (sym c.is_times.ensures ∙ c.if-is_times.false)
    ∙ ap (test_parts x.program.now.layout x.holds) (sym is))
    c.push_test_if.ensures
