-- Sentences that are joined have the statements of both.
use Rattle.std.proofs.Common.{◌≡◌, ◌++◌, append_assoc, refl, ap, ◌∙◌, sym}
use Rattle.cob_program.specs.Act.{Stmts, no_stmts, more_stmts}
use Rattle.cob_program.specs.Statements.{list_statements, with_inner_statements}
use Rattle.cob_typed.specs.Typing.{joined}

pub joined_list : (xs ys : Stmts) → list_statements (joined xs ys) ≡ list_statements xs ++ list_statements ys
joined_list no_stmts ys = refl
joined_list (more_stmts x xs) ys =
    ap (λ t. with_inner_statements x ++ t) (joined_list xs ys) ∙ sym (append_assoc (with_inner_statements x) (list_statements xs) (list_statements ys))
