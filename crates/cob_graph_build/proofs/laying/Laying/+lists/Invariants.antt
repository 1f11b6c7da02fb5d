use Rattle.std.proofs.Common.{◌≡◌, ◌-◌}
use Rattle.cob_graph.specs.Nodes.{paras_nodes}
use Rattle.cob_graph_build.specs.Tables.{lay_paras}
use Rattle.cob_graph_build.specs.Growing.{grown, plan, copies_of, paras_of, copied_of}
use Rattle.cob_graph_build.proofs.laying.Laying.+lists.Given as goal

-- what is laid, and what is left of the paragraphs behind it, is the whole
abbrev pub invariant-lay_paras-loop-place : goal.invariant-lay_paras-loop-place
invariant-lay_paras-loop-place l =
    grown l.self (paras_nodes (copied_of l.within)
    (lay_paras (plan l.within) (copies_of l.within) l.place (l.within.end - l.place)) l.at l.within.next)
    ≡ grown l.initial.self (paras_nodes (copied_of l.within) (paras_of l.within) l.within.at l.within.next)

abbrev pub decreases-lay_list : goal.decreases-lay_list
decreases-lay_list l = l.left

abbrev pub decreases-lay_stmt : goal.decreases-lay_stmt
decreases-lay_stmt l = l.left

abbrev pub decreases-lay_phrase : goal.decreases-lay_phrase
decreases-lay_phrase l = l.left

abbrev pub decreases-lay_act : goal.decreases-lay_act
decreases-lay_act l = l.left

abbrev pub decreases-lay_arith : goal.decreases-lay_arith
decreases-lay_arith l = l.left

abbrev pub decreases-lay_if : goal.decreases-lay_if
decreases-lay_if l = l.left

abbrev pub decreases-lay_evaluate : goal.decreases-lay_evaluate
decreases-lay_evaluate l = l.left

abbrev pub decreases-lay_whens : goal.decreases-lay_whens
decreases-lay_whens l = l.left

abbrev pub decreases-lay_read : goal.decreases-lay_read
decreases-lay_read l = l.left

abbrev pub decreases-lay_perform : goal.decreases-lay_perform
decreases-lay_perform l = l.left

abbrev pub decreases-lay_body : goal.decreases-lay_body
decreases-lay_body l = l.left

abbrev pub decreases-lay_copy : goal.decreases-lay_copy
decreases-lay_copy l = l.left

abbrev pub decreases-lay_paras : goal.decreases-lay_paras
decreases-lay_paras l = l.left
