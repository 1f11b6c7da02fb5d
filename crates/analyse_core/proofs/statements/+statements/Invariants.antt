use Rattle.std.proofs.Common.{◌≡◌, ◌++◌, drop}
use Rattle.cob_program.specs.ActView.{plain_stmts}
use Rattle.cob_program.specs.ActView.{plain_whens}
use Rattle.analyse_core.specs.Literals.{numbers_of, stmts_literals, whens_literals}
use Rattle.analyse_core.proofs.statements.+statements.Given as goal

abbrev pub invariant-add_list-loop-statement : goal.invariant-add_list-loop-statement
invariant-add_list-loop-statement l =
    numbers_of l.literals.items ++ stmts_literals (plain_stmts (drop l.statement-index l.list))
    ≡ numbers_of l.initial.literals.items ++ stmts_literals (plain_stmts (drop 0 l.list))

abbrev pub invariant-add_whens-loop-when : goal.invariant-add_whens-loop-when
invariant-add_whens-loop-when l =
    numbers_of l.literals.items ++ whens_literals (plain_whens (drop l.when-index l.whens))
    ≡ numbers_of l.initial.literals.items ++ whens_literals (plain_whens (drop 0 l.whens))
