use Rattle.cob_runs.specs.Effects.{tests_in_list}
use Rattle.edge_parts.specs.PartView.{plain_reference}
use Rattle.edge_parts.proofs.TestLoops.{list_from}
use Rattle.edge_parts.proofs.HandingLaws.{Leads}
use Rattle.edge_parts.proofs.tests_of.push_in_list.Given as goal

abbrev pub invariant-loop-logic : goal.invariant-loop-logic
invariant-loop-logic l =
    Leads plain_reference l.tests (tests_in_list (list_from l.list l.logic-index)) l.initial.tests (tests_in_list (list_from l.list 0))
