-- Paragraphs that are entered, one after another.
use Rattle.std.proofs.Common.{ℕ, zero, suc, ◌+◌, ◌-◌, ◌≡◌, ◌<◌, ◌≤◌, ◌==◌, true, false, List, [], ◌∷◌, length, refl, sym, ap, ◌∙◌, arith, slice_get, map}
use Rattle.std.specs.Option.{option_map_or}
use Rattle.std.proofs.lemmas.Bool.{eqb-true}
use Rattle.std.proofs.lemmas.List.{length-map, length-reverse}
use Rattle.cob_program.specs.declared.act.Stmt as declared_stmt
use Rattle.cob_program.specs.Act.{Program, Para, no_stmts}
use Rattle.cob_runs.specs.declared.outcome.Outcome.TheVariants.{Going, Ended}
use Rattle.cob_runs.specs.Files.{Choice}
use Rattle.cob_runs.specs.State.{World, Doing, rest, paras, state}
use Rattle.cob_runs.specs.Steps.{body_at, begun, entered, settled_on}
use Rattle.cob_step.specs.declared.control.Todo.{Todo}
use Rattle.cob_step.specs.declared.control.Control.{Control}
use Rattle.cob_program.specs.ActView.{plain_stmts}
use Rattle.cob_step.specs.Views.{plain_doing, plain_control}

pub begun_full : (xs : List declared_stmt.Stmt) (front otherwise : List Doing) → (length xs == 0) ≡ false →
    begun (plain_stmts xs) front otherwise ≡ rest (plain_stmts xs) ∷ front
begun_full [] front otherwise full = absurd (cc)
begun_full (x ∷ xs) front otherwise full = refl

pub begun_empty : (xs : List declared_stmt.Stmt) (front otherwise : List Doing) → (length xs == 0) ≡ true →
    begun (plain_stmts xs) front otherwise ≡ otherwise
begun_empty [] front otherwise none = refl
begun_empty (x ∷ xs) front otherwise none = absurd (omega (arith, eqb-true (length (x ∷ xs)) 0 none))

none_there : (xs : List Para) (n : ℕ) → length xs ≤ n → option_map_or (λ x. x.body) (slice_get xs n) no_stmts ≡ no_stmts
none_there [] n past = refl
none_there (x ∷ xs) zero past = absurd (omega arith)
none_there (x ∷ xs) (suc n) past = none_there xs n (omega arith)

module _ (p : Program) (ds behind : List Doing) where
  -- where there are no paragraphs
  pub entered_none : (n first last : ℕ) → length p.paras ≤ first → entered p n first last ds behind ≡ behind
  entered_none zero first last past = refl
  entered_none (suc n) first last past =
      ap (λ ss. begun ss (paras (suc first) last ∷ ds) (entered p n (suc first) last ds behind))
      (none_there p.paras first past)
      ∙ entered_none n (suc first) last (omega arith)

  -- where the last one was passed
  pub entered_past : (first last : ℕ) → last < first → entered p (suc last - first) first last ds behind ≡ behind
  entered_past first last past =
      let none : suc last - first ≡ 0 = omega arith in ap (λ n. entered p n first last ds behind) none

  some_left : (first last : ℕ) → first ≤ last → entered p (suc last - first) first last ds behind
      ≡ begun (body_at p first) (paras (suc first) last ∷ ds)
      (entered p (suc last - (first + 1)) (first + 1) last ds behind)
  some_left first last within =
      let left : suc last - first ≡ suc (suc last - (first + 1)) = omega arith in
      let next : suc first ≡ first + 1 = omega arith in
      ap (λ n. entered p n first last ds behind) left
      ∙ ap (λ n. begun (body_at p first) (paras (suc first) last ∷ ds)
      (entered p (suc last - (first + 1)) n last ds behind)) next

  -- one with statements
  pub entered_full : (xs : List declared_stmt.Stmt) (first last : ℕ) → first ≤ last →
      plain_stmts xs ≡ body_at p first → (length xs == 0) ≡ false →
      entered p (suc last - first) first last ds behind ≡ rest (body_at p first) ∷ paras (suc first) last ∷ ds
  entered_full xs first last within its full =
      some_left first last within
      ∙ ap (λ ss. begun ss (paras (suc first) last ∷ ds) (entered p (suc last - (first + 1))
      (first + 1) last ds behind)) (sym its)
      ∙ begun_full xs _ _ full ∙ ap (λ ss. rest ss ∷ paras (suc first) last ∷ ds) its

  -- an empty one is passed over
  pub entered_empty : (xs : List declared_stmt.Stmt) (first last : ℕ) → first ≤ last →
      plain_stmts xs ≡ body_at p first → (length xs == 0) ≡ true →
      entered p (suc last - first) first last ds behind ≡ entered p (suc last - (first + 1)) (first + 1) last ds behind
  entered_empty xs first last within its none =
      some_left first last within
      ∙ ap (λ ss. begun ss (paras (suc first) last ∷ ds) (entered p (suc last - (first + 1))
      (first + 1) last ds behind)) (sym its)
      ∙ begun_empty xs _ _ none

-- ---- whether anything is left

pub nothing_left : (p : Program) (c : Choice) (w : World) (ds : List Doing) → length ds ≡ 0 →
    settled_on p c w ds ≡ state w ds Ended
nothing_left p c w [] none = refl
nothing_left p c w (d ∷ ds) none = absurd (omega (arith, none))

pub something_left : (p : Program) (c : Choice) (w : World) (ds : List Doing) → 0 < length ds →
    settled_on p c w ds ≡ state w ds Going
something_left p c w [] some = absurd (omega (arith, some))
something_left p c w (d ∷ ds) some = refl

pub as_many : (c : Control) → length (plain_control c) ≡ length c.items.items
as_many c = length-reverse (map plain_doing c.items.items) ∙ length-map c.items.items plain_doing

some_length : (xs : List Todo) → (length xs == 0) ≡ false → 0 < length xs
some_length [] some = absurd (cc)
some_length (x ∷ xs) some = omega arith

pub is_empty : (c : Control) (xs : List Todo) → xs ≡ c.items.items → (length xs == 0) ≡ true →
    length (plain_control c) ≡ 0
is_empty c xs its none = as_many c ∙ ap length (sym its) ∙ eqb-true (length xs) 0 none

pub is_not_empty : (c : Control) (xs : List Todo) → xs ≡ c.items.items → (length xs == 0) ≡ false →
    0 < length (plain_control c)
is_not_empty c xs its some = omega (arith, some_length xs some, as_many c, ap length its)
