use Rattle.cob_runs.specs.Effects.{tests_among}
use Rattle.edge_parts.specs.PartView.{plain_reference}
use Rattle.edge_parts.proofs.TestLoops.{logics_from}
use Rattle.edge_parts.proofs.HandingLaws.{Leads}
use Rattle.edge_parts.proofs.tests_of.+logic.Given as goal

abbrev pub invariant-push_among-loop-part : goal.invariant-push_among-loop-part
invariant-push_among-loop-part l =
    Leads plain_reference l.tests (tests_among (logics_from l.parts l.part-index)) l.initial.tests (tests_among (logics_from l.parts 0))
