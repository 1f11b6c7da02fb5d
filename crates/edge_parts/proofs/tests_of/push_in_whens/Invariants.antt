use Rattle.cob_runs.specs.Effects.{tests_in_whens}
use Rattle.edge_parts.specs.PartView.{plain_reference}
use Rattle.edge_parts.proofs.TestLoops.{whens_from}
use Rattle.edge_parts.proofs.HandingLaws.{Leads}
use Rattle.edge_parts.proofs.tests_of.push_in_whens.Given as goal

abbrev pub invariant-loop-when : goal.invariant-loop-when
invariant-loop-when l =
    Leads plain_reference l.tests (tests_in_whens (whens_from l.whens l.when-index)) l.initial.tests (tests_in_whens (whens_from l.whens 0))
