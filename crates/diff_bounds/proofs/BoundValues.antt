-- A bound that a matrix shows tells that each cell of the form has a value.
use Rattle.std.proofs.Common.{◌≡◌, ◌≢◌, ℕ, zero, suc, ◌+◌, ◌<◌, ◌≤◌, Bool, true, false, cond, eqb, ℤ, pos, negsuc, ◌≤ℤ◌, ◌<ℤ◌, Option, Some, None, ◌⊎◌, inl, inr, refl, sym, subst, ◌∙◌, arith}
use Rattle.std.proofs.lemmas.Int.{ints, by_lt_z}
use Rattle.std.proofs.lemmas.Bool.{cases_eq}
use Rattle.diff_bounds.specs.Matrix.{none, IsBound}
use Rattle.diff_bounds.specs.Storages.{value_at, DifferBy, StandsIn}
use Rattle.diff_bounds.specs.Numbers.{number_of, added, lesser, cut, times}
use Rattle.diff_bounds.specs.Upper.{term, terms, without, by_zero, by_pair, least_to, upper}
use Rattle.diff_bounds.specs.Values.{HasValue}
use Rattle.diff_bounds.proofs.Numbers.{number_at, number_beyond}
use Rattle.diff_bounds.proofs.Sound.{without_other, differ_of_signs}

-- P where it is a number
abbrev pub Shows : Type 0 → Option ℤ → Type 0
Shows P (Some u) = P
Shows P None = Unit {0}

shows_any : (P : Type 0) (o : Option ℤ) → P → Shows P o
shows_any P (Some u) h = h
shows_any P None h = tt

shows_left : (P : Type 0) (o p : Option ℤ) → Shows P o → Shows P (added o p)
shows_left P (Some x) (Some y) h = h
shows_left P (Some x) None h = tt
shows_left P None p h = tt

shows_right : (P : Type 0) (o p : Option ℤ) → Shows P p → Shows P (added o p)
shows_right P (Some x) (Some y) h = h
shows_right P (Some x) None h = tt
shows_right P None p h = tt

shows_cut : (P : Type 0) (o : Option ℤ) → Shows P o → Shows P (cut o)
shows_cut P (Some z) h = shows_any P (cut (Some z)) h
shows_cut P None h = tt

shows_times : (P : Type 0) (k : ℕ) (o : Option ℤ) → Shows P o → Shows P (times k o)
shows_times P k (Some x) h = shows_any P (times k (Some x)) h
shows_times P k None h = tt

shows_lesser : (P : Type 0) (o p : Option ℤ) → Shows P o → Shows P p → Shows P (lesser o p)
shows_lesser P (Some x) (Some y) h k = h
shows_lesser P (Some x) None h k = h
shows_lesser P None p h k = k

shows_number : (P : Type 0) (x : ℤ) → (IsBound x → P) → Shows P (number_of x)
shows_number P x h = by_lt_z x none
    (λ (lt : x <ℤ none). shows_any P (number_of x) (h lt))
    (λ (le : none ≤ℤ x). subst (λ (o : Option ℤ). Shows P o) (sym (number_beyond x le)) tt)

row_value : (c : ℤ) (x y : Option ℤ) → DifferBy c x y → HasValue x
row_value c (Some x) (Some y) h = tt
row_value c (Some x) None h = tt
row_value c None y h = h

column_value : (c : ℤ) (x y : Option ℤ) → DifferBy c x y → HasValue y
column_value c (Some x) (Some y) h = tt
column_value c (Some x) None h = h
column_value c None y h = absurd h

module _ (size : ℕ) (w : ℕ → ℕ → ℤ) (cells : ℕ → Option ℤ) (stands : StandsIn (size + 1) w cells) where
  shows_row : (i j : ℕ) → i ≤ size → j ≤ size → i ≢ j → Shows (HasValue (value_at cells i)) (number_of (w i j))
  shows_row i j h k ne = shows_number (HasValue (value_at cells i)) (w i j) (λ b. row_value (w i j) (value_at cells i) (value_at cells j) (stands.bounded i j (omega arith) (omega arith) ne b))

  shows_column : (i j : ℕ) → i ≤ size → j ≤ size → i ≢ j → Shows (HasValue (value_at cells j)) (number_of (w i j))
  shows_column i j h k ne = shows_number (HasValue (value_at cells j)) (w i j) (λ b. column_value (w i j) (value_at cells i) (value_at cells j) (stands.bounded i j (omega arith) (omega arith) ne b))

  term_shows : (place : ℕ) → 0 < place → place ≤ size → (c : ℤ) → c ≢ pos 0 → Shows (HasValue (value_at cells place)) (term w place c)
  term_shows place h k (pos zero) ne = absurd (ne refl)
  term_shows place h k (pos (suc m)) ne = shows_times (HasValue (value_at cells place)) (suc m) (number_of (w place 0)) (shows_row place 0 k (omega arith) (λ e. omega arith))
  term_shows place h k (negsuc m) ne = shows_times (HasValue (value_at cells place)) (suc m) (number_of (w 0 place)) (shows_column 0 place (omega arith) k (λ e. omega arith))

  terms_show : (c : ℕ → ℤ) (j n : ℕ) → 0 < j → j ≤ n → n ≤ size → c j ≢ pos 0 → Shows (HasValue (value_at cells j)) (terms w c n)
  terms_show c j zero h k l ne = absurd (omega arith)
  terms_show c j (suc n) h k l ne =
      elim (cases_eq (suc n) j) as (λ _. Shows (HasValue (value_at cells j)) (terms w c (suc n))) [
        | inl e ↦ shows_right (HasValue (value_at cells j)) (terms w c n) (term w (suc n) (c (suc n)))
            (subst (λ (i : ℕ). Shows (HasValue (value_at cells j)) (term w i (c i))) (sym e) (term_shows j h (omega arith) (c j) ne))
        | inr other ↦ shows_left (HasValue (value_at cells j)) (terms w c n) (term w (suc n) (c (suc n))) (terms_show c j n h (omega arith) (omega arith) ne)
      ]

  pair_shows : (c : ℕ → ℤ) (high : ℤ) (j : ℕ) → 0 < j → j ≤ size → c j ≢ pos 0 → (x y : ℕ) → 0 < x → x ≤ size → 0 < y → y ≤ size → (p q : ℤ) → c x ≡ p → c y ≡ q → Shows (HasValue (value_at cells j)) (by_pair w c high size x y p q)
  pair_shows c high j h k ne x y a b d e (pos zero) q f g = tt
  pair_shows c high j h k ne x y a b d e (negsuc m) q f g = tt
  pair_shows c high j h k ne x y a b d e (pos (suc m)) (pos i) f g = tt
  pair_shows c high j h k ne x y a b d e (pos (suc m)) (negsuc i) f g = by_bool (eqb m i)
    where
      apart : x ≢ y
      apart = differ_of_signs c x y m i f g

      first : (j ≡ x) ⊎ (j ≡ x → ⊥) → (j ≡ y) ⊎ (j ≡ y → ⊥) → Shows (HasValue (value_at cells j)) (added (times (suc m) (number_of (w x y))) (added (terms w (without x y c) size) (Some high)))
      first (inl s) other = shows_left (HasValue (value_at cells j)) (times (suc m) (number_of (w x y))) (added (terms w (without x y c) size) (Some high))
          (shows_times (HasValue (value_at cells j)) (suc m) (number_of (w x y)) (subst (λ (i : ℕ). Shows (HasValue (value_at cells i)) (number_of (w x y))) (sym s) (shows_row x y b e apart)))
      first (inr apart_) (inl s) = shows_left (HasValue (value_at cells j)) (times (suc m) (number_of (w x y))) (added (terms w (without x y c) size) (Some high))
          (shows_times (HasValue (value_at cells j)) (suc m) (number_of (w x y)) (subst (λ (i : ℕ). Shows (HasValue (value_at cells i)) (number_of (w x y))) (sym s) (shows_column x y b e apart)))
      first (inr apart_) (inr neither) = shows_right (HasValue (value_at cells j)) (times (suc m) (number_of (w x y))) (added (terms w (without x y c) size) (Some high))
          (shows_left (HasValue (value_at cells j)) (terms w (without x y c) size) (Some high)
          (terms_show (without x y c) j size h k (omega arith) (λ z. ne (sym (without_other x y c j apart_ neither) ∙ z))))

      by_bool : (t : Bool) → Shows (HasValue (value_at cells j)) (cond t (cut (added (times (suc m) (number_of (w x y))) (added (terms w (without x y c) size) (Some high)))) None)
      by_bool false = tt
      by_bool true = shows_cut (HasValue (value_at cells j)) (added (times (suc m) (number_of (w x y))) (added (terms w (without x y c) size) (Some high))) (first (cases_eq j x) (cases_eq j y))

  least_shows : (P : Type 0) (n : ℕ) (f : ℕ → Option ℤ) → ((k : ℕ) → 0 < k → k ≤ n → Shows P (f k)) → Shows P (least_to n f)
  least_shows P zero f h = tt
  least_shows P (suc n) f h = shows_lesser P (least_to n f) (f (suc n)) (least_shows P n f (λ k g l. h k g (omega arith))) (h (suc n) (omega arith) (omega arith))

  pub upper_shows : (c : ℕ → ℤ) (high : ℤ) (j : ℕ) → 0 < j → j ≤ size → c j ≢ pos 0 → Shows (HasValue (value_at cells j)) (upper w c high size)
  upper_shows c high j h k ne =
      shows_lesser (HasValue (value_at cells j)) (by_zero w c high size) (least_to size (λ x. least_to size (λ y. by_pair w c high size x y (c x) (c y))))
      (shows_cut (HasValue (value_at cells j)) (added (terms w c size) (Some high)) (shows_left (HasValue (value_at cells j)) (terms w c size) (Some high) (terms_show c j size h k (omega arith) ne)))
      (least_shows (HasValue (value_at cells j)) size (λ x. least_to size (λ y. by_pair w c high size x y (c x) (c y))) (λ x a b.
      least_shows (HasValue (value_at cells j)) size (λ y. by_pair w c high size x y (c x) (c y)) (λ y d e. pair_shows c high j h k ne x y a b d e (c x) (c y) refl refl)))
