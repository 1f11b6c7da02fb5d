use Rattle.std.proofs.Common.{◌≡◌, ◌++◌, drop}
use Rattle.cob_program.specs.ActView.{plain_stmts, plain_whens}
use Rattle.cob_program.specs.Statements.{list_statements, whens_statements, plain_references}
use Rattle.cob_program.proofs.statements.+lists.Given as goal

abbrev pub invariant-add_list-loop-statement : goal.invariant-add_list-loop-statement
invariant-add_list-loop-statement l =
    plain_references l.statements.items ++ list_statements (plain_stmts (drop l.statement-index l.list))
    ≡ plain_references l.initial.statements.items ++ list_statements (plain_stmts (drop 0 l.list))

abbrev pub invariant-add_whens-loop-when : goal.invariant-add_whens-loop-when
invariant-add_whens-loop-when l =
    plain_references l.statements.items ++ whens_statements (plain_whens (drop l.when-index l.whens))
    ≡ plain_references l.initial.statements.items ++ whens_statements (plain_whens (drop 0 l.whens))
