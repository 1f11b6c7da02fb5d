use Rattle.std.proofs.Common.{◌≡◌, take}
use Rattle.std.specs.List.{All}
use Rattle.cell_layer.specs.NumberedStatements.{number_in}
use Rattle.cell_layer.specs.Statements.{stated}
use Rattle.cell_layer.proofs.layer.statements.among.Given as goal

abbrev pub invariant-loop-statement : goal.invariant-loop-statement
invariant-loop-statement l = All (λ s. ¬ number_in (stated s) ≡ l.number) (take l.statement-index l.statements)
