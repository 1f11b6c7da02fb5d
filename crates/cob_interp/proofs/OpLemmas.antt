-- Operations of statements that open, close or read a file.
use Rattle.std.proofs.Common.{◌≡◌, ◌<◌, ℕ, zero, suc, Bool, true, List, [], ◌∷◌, length, Some, None, refl, subst, arith as by_arith}
use Rattle.std.specs.Prelude.{slice_get}
use Rattle.cob_program.specs.declared.act.Opening.{Opening}
use Rattle.cob_program.specs.Act.{Act, move, arith, if_, evaluate, perform, go, nothing, stop, open_files, close_files, read, write, show, Program}
use Rattle.cob_plan.specs.declared.node.Op.{Op}
use Rattle.cob_plan.specs.declared.node.Op.TheVariants as op
use Rattle.cob_plan.specs.Fitting.{Fits, IsOfRead, BeginsRead}
use Rattle.cob_plan.specs.Stepping.{file_opened}
use Rattle.cob_interp.specs.declared.parts.Call.TheVariants as call
use Rattle.cob_interp.specs.Setting.{IsCall}

-- the operation opens, or closes, a file of so many
abbrev Opens : ℕ → Op → Type 0
Opens many (op.Open k fine bad) = k < many
Opens many _ = ⊥

abbrev Closes : ℕ → Op → Type 0
Closes many (op.Close k fine bad) = k < many
Closes many _ = ⊥

opens : (p : Program) (o : Op) (os : List Opening) → Fits p o (open_files os) → Opens (length os) o
opens p (op.Skip to) os h = absurd h
opens p (op.Assign to) os h = absurd h
opens p (op.Show to) os h = absurd h
opens p (op.SetCount to) os h = absurd h
opens p (op.CountDown to) os h = absurd h
opens p (op.Compute fine size) os h = absurd h.0
opens p (op.Test k held other) os h = absurd (omega (by_arith, h))
opens p (op.Open k fine bad) os h = h
opens p (op.Close k fine bad) os h = absurd h
opens p (op.Read found at_end bad) os h = absurd h
opens p (op.Write fine bad) os h = absurd h
opens p op.Final os h = absurd h

closes : (p : Program) (o : Op) (fs : List ℕ) → Fits p o (close_files fs) → Closes (length fs) o
closes p (op.Skip to) fs h = absurd h
closes p (op.Assign to) fs h = absurd h
closes p (op.Show to) fs h = absurd h
closes p (op.SetCount to) fs h = absurd h
closes p (op.CountDown to) fs h = absurd h
closes p (op.Compute fine size) fs h = absurd h.0
closes p (op.Test k held other) fs h = absurd (omega (by_arith, h))
closes p (op.Open k fine bad) fs h = absurd h
closes p (op.Close k fine bad) fs h = h
closes p (op.Read found at_end bad) fs h = absurd h
closes p (op.Write fine bad) fs h = absurd h
closes p op.Final fs h = absurd h

never_past : {A : Type 0} (xs : List A) (k : ℕ) → k < length xs → slice_get xs k ≡ None → ⊥
never_past [] k within none = omega (by_arith, within)
never_past (x ∷ xs) zero within none = absurd cc
never_past (x ∷ xs) (suc k) within none = never_past xs k (omega (by_arith, within)) none

module _ (p : Program) (o : Op) (a : Act) where
  -- a node of an OPEN opens one of its files
  module _ (os : List Opening) (its : a ≡ open_files os) (fits : Fits p o a) where
    opens_it : Opens (length os) o
    opens_it = opens p o os (subst (Fits p o) its fits)

    pub opened_op : (k : ℕ) × (file_opened o ≡ Some k)
    opened_op = by_op o opens_it
      where
        by_op : (u : Op) → Opens (length os) u → (k : ℕ) × (file_opened u ≡ Some k)
        by_op (op.Open k fine bad) h = (k, refl)
        by_op (op.Skip to) h = absurd h
        by_op (op.Assign to) h = absurd h
        by_op (op.Show to) h = absurd h
        by_op (op.SetCount to) h = absurd h
        by_op (op.CountDown to) h = absurd h
        by_op (op.Compute fine size) h = absurd h
        by_op (op.Test k held other_) h = absurd h
        by_op (op.Close k fine bad) h = absurd h
        by_op (op.Read found at_end bad) h = absurd h
        by_op (op.Write fine bad) h = absurd h
        by_op op.Final h = absurd h

    pub always_opens : ((k fine bad : ℕ) → o ≡ op.Open k fine bad → ⊥) → ⊥
    always_opens other = by_op o opens_it other
      where
        by_op : (u : Op) → Opens (length os) u → ((k fine bad : ℕ) → u ≡ op.Open k fine bad → ⊥) → ⊥
        by_op (op.Open k fine bad) h n = n k fine bad refl
        by_op (op.Skip to) h n = h
        by_op (op.Assign to) h n = h
        by_op (op.Show to) h n = h
        by_op (op.SetCount to) h n = h
        by_op (op.CountDown to) h n = h
        by_op (op.Compute fine size) h n = h
        by_op (op.Test k held other_) h n = h
        by_op (op.Close k fine bad) h n = h
        by_op (op.Read found at_end bad) h n = h
        by_op (op.Write fine bad) h n = h
        by_op op.Final h n = h

    pub opens_there : (k fine bad : ℕ) → o ≡ op.Open k fine bad → slice_get os k ≡ None → ⊥
    opens_there k fine bad is none = never_past os k (subst (Opens (length os)) is opens_it) none

  -- a node of a CLOSE closes one of its files
  module _ (fs : List ℕ) (its : a ≡ close_files fs) (fits : Fits p o a) where
    closes_it : Closes (length fs) o
    closes_it = closes p o fs (subst (Fits p o) its fits)

    pub always_closes : ((k fine bad : ℕ) → o ≡ op.Close k fine bad → ⊥) → ⊥
    always_closes other = by_op o closes_it other
      where
        by_op : (u : Op) → Closes (length fs) u → ((k fine bad : ℕ) → u ≡ op.Close k fine bad → ⊥) → ⊥
        by_op (op.Close k fine bad) h n = n k fine bad refl
        by_op (op.Skip to) h n = h
        by_op (op.Assign to) h n = h
        by_op (op.Show to) h n = h
        by_op (op.SetCount to) h n = h
        by_op (op.CountDown to) h n = h
        by_op (op.Compute fine size) h n = h
        by_op (op.Test k held other_) h n = h
        by_op (op.Open k fine bad) h n = h
        by_op (op.Read found at_end bad) h n = h
        by_op (op.Write fine bad) h n = h
        by_op op.Final h n = h

    pub closes_there : (k fine bad : ℕ) → o ≡ op.Close k fine bad → slice_get fs k ≡ None → ⊥
    closes_there k fine bad is none = never_past fs k (subst (Closes (length fs)) is closes_it) none

-- ---- READ

of_read : (a : Act) (file : ℕ) (starts : Bool) (o : Op) → IsCall a (call.Read file) → BeginsRead starts o a →
    IsOfRead starts o
of_read (read f into at_end fine) file starts o is h = h
of_read (open_files os) file starts o is h = absurd is
of_read (close_files xs) file starts o is h = absurd is
of_read (move x places) file starts o is h = absurd is
of_read (arith sum targets remainder size fine) file starts o is h = absurd is
of_read (if_ t held other) file starts o is h = absurd is
of_read (evaluate ws other) file starts o is h = absurd is
of_read (perform body turns) file starts o is h = absurd is
of_read (go para) file starts o is h = absurd is
of_read nothing file starts o is h = absurd is
of_read stop file starts o is h = absurd is
of_read (write r from) file starts o is h = absurd is
of_read (show xs) file starts o is h = absurd is

-- the node at which a READ begins reads
pub always_reads : (a : Act) (file : ℕ) (starts : Bool) (o : Op) → IsCall a (call.Read file) → starts ≡ true →
    BeginsRead starts o a → ((found at_end bad : ℕ) → o ≡ op.Read found at_end bad → ⊥) → ⊥
always_reads a file starts o is begins h other =
    by_op o (subst (λ b. IsOfRead b o) begins (of_read a file starts o is h)) other
  where
    by_op : (u : Op) → IsOfRead true u → ((found at_end bad : ℕ) → u ≡ op.Read found at_end bad → ⊥) → ⊥
    by_op (op.Read found at_end bad) h n = n found at_end bad refl
    by_op (op.Skip to) h n = h
    by_op (op.Assign to) h n = h
    by_op (op.Show to) h n = h
    by_op (op.SetCount to) h n = h
    by_op (op.CountDown to) h n = h
    by_op (op.Compute fine size) h n = h
    by_op (op.Test k held other_) h n = h
    by_op (op.Open k fine bad) h n = h
    by_op (op.Close k fine bad) h n = h
    by_op (op.Write fine bad) h n = h
    by_op op.Final h n = h
