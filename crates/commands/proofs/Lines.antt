-- The line of a statement in a list of references.
use Rattle.std.proofs.Common.{◌≡◌, ℕ, zero, suc, ◌-◌, ◌<◌, ◌≤◌, List, [], ◌∷◌, length, get_or, slice_get, ap, ◌∙◌, refl, arith}
use Rattle.std.specs.Option.{option_map_or}
use Rattle.std.specs.Borrow.{Bor}
use Rattle.cob_program.specs.declared.act.Stmt.{Stmt}
use Rattle.cob_program.specs.ActView.{plain_stmt}
use Rattle.cob_program.specs.Statements.{plain_references}
use Rattle.commands.specs.Alarms.{line_of, line_in}

line_there : (xs : List (Bor Stmt)) (k : ℕ) (x : Bor Stmt) → k < length xs → x ≡ get_or xs k x
    → line_of (plain_stmt x.now) ≡ option_map_or line_of (slice_get (plain_references xs) k) 0
line_there [] k x l e = absurd (omega (arith, l))
line_there (y ∷ xs) zero x l e = ap (λ (z : Bor Stmt). line_of (plain_stmt z.now)) e
line_there (y ∷ xs) (suc k) x l e = line_there xs k x (omega (arith, l)) e

pub line_is : (xs : List (Bor Stmt)) (number k : ℕ) (x : Bor Stmt) → k ≡ number - 1 → k < length xs → x ≡ get_or xs k x
    → line_of (plain_stmt x.now) ≡ line_in (plain_references xs) number
line_is xs number k x e within is =
    line_there xs k x within is ∙ ap (λ (n : ℕ). option_map_or line_of (slice_get (plain_references xs) n) 0) e

none_there : (xs : List (Bor Stmt)) (k : ℕ) → length xs ≤ k → 0 ≡ option_map_or line_of (slice_get (plain_references xs) k) 0
none_there [] zero l = refl
none_there [] (suc k) l = refl
none_there (y ∷ xs) zero l = absurd (omega (arith, l))
none_there (y ∷ xs) (suc k) l = none_there xs k (omega (arith, l))

pub no_line : (xs : List (Bor Stmt)) (number k : ℕ) → k ≡ number - 1 → length xs ≤ k → 0 ≡ line_in (plain_references xs) number
no_line xs number k e past =
    none_there xs k past ∙ ap (λ (n : ℕ). option_map_or line_of (slice_get (plain_references xs) n) 0) e
