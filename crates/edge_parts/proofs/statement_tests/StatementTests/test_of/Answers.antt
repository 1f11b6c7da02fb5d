use Rattle.std.proofs.Common.{inl, inr}
use Rattle.edge_parts.proofs.statement_tests.StatementTests.test_of.Goals as goal

pub returns-in-True : goal.returns-in-True
returns-in-True c =
    elim c.in-True.is [
      | inl e ↦ rw e c.at.ensures
      | inr e ↦ rw e c.at.ensures
    ]
