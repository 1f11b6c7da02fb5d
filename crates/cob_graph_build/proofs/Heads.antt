-- The first element of a list and the others, as a pattern has them.
use Rattle.std.proofs.Common.{◌≡◌, ◌≤◌, ◌-◌, List, [], ◌∷◌, length, take, drop, get_or, sym, ap, ◌∙◌, arith}
use Rattle.std.proofs.lemmas.List.{take_all}
use Rattle.cob_program.specs.declared.act.Stmt as declared_stmt
use Rattle.cob_program.specs.declared.act.When as declared_when
use Rattle.cob_program.specs.declared.logic.Logic as declared_logic
use Rattle.cob_program.specs.Logic.{Logics, more_logics}
use Rattle.cob_program.specs.LogicView.{plain_logic, plain_logics}
use Rattle.cob_program.specs.Act.{Stmts, more_stmts, Whens, more_whens}
use Rattle.cob_program.specs.ActView.{plain_stmt, plain_when, plain_stmts, plain_whens}

abbrev pub others : {A : Type 0} → List A → List A
others xs = take (length xs - 1) (drop 1 xs)

head_cut : {A : Type 0} (xs : List A) (x : A) → 1 ≤ length xs → x ≡ get_or xs 0 x → xs ≡ x ∷ others xs
head_cut [] x some is = absurd (omega (arith, some))
head_cut (y ∷ ys) x some is =
    ap (λ z. z ∷ ys) (sym is) ∙ ap (λ zs. x ∷ zs) (sym (take_all (length (y ∷ ys) - 1) ys (omega arith)))

pub stmts_cut : (xs : List declared_stmt.Stmt) (x : declared_stmt.Stmt) → 1 ≤ length xs → x ≡ get_or xs 0 x →
    plain_stmts xs ≡ more_stmts (plain_stmt x) (plain_stmts (others xs))
stmts_cut xs x some is = ap plain_stmts (head_cut xs x some is)

pub whens_cut : (xs : List declared_when.When) (x : declared_when.When) → 1 ≤ length xs → x ≡ get_or xs 0 x →
    plain_whens xs ≡ more_whens (plain_when x) (plain_whens (others xs))
whens_cut xs x some is = ap plain_whens (head_cut xs x some is)

pub logics_cut : (xs : List declared_logic.Logic) (x : declared_logic.Logic) → 1 ≤ length xs → x ≡ get_or xs 0 x →
    plain_logics xs ≡ more_logics (plain_logic x) (plain_logics (others xs))
logics_cut xs x some is = ap plain_logics (head_cut xs x some is)
