use Rattle.std.proofs.Common.{◌≡◌, take}
use Rattle.cob_program.specs.Statements.{plain_references}
use Rattle.cell_layer.specs.Statements.{stated_in}
use Rattle.cell_layer.proofs.layer.statements.tests_of.Given as goal

abbrev pub invariant-loop-statement : goal.invariant-loop-statement
invariant-loop-statement l = stated_in l.tests.items ≡ plain_references (take l.statement-index l.statements)
