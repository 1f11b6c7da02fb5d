use Rattle.std.proofs.Common.{◌∙◌, ap, map}
use Rattle.std.specs.Prelude.{slice_get}
use Rattle.edge_parts.specs.PartView.{plain_reference}
use Rattle.edge_parts.proofs.EdgeTests.{at_place}
use Rattle.edge_parts.proofs.statement_tests.StatementTests.at.Goals as goal

pub returns : goal.returns
returns c =
    at_place _ _ _ _
    (c.test_among.ensures ∙ ap (λ tests. slice_get (map plain_reference tests) c.args.place) c.deref.ensures.value)
    c.args.self.now.listed
