-- Rows that go through one more place, in place.
use Rattle.std.proofs.Common.{◌≡◌, ◌≢◌, ℕ, ◌+◌, ◌*◌, ◌<◌, ◌≤◌, List, length, set, ℤ, pos, ◌+ℤ◌, ◌≤ℤ◌, ◌<ℤ◌, ◌⊎◌, inl, inr, refl, sym, subst, ◌∙◌, arith}
use Rattle.std.proofs.lemmas.Int.{ints}
use Rattle.std.proofs.lemmas.Bool.{cases_eq, cases_lt}
use Rattle.diff_bounds.specs.Matrix.{word}
use Rattle.diff_bounds.specs.Sums.{IsSum, IsShort, IsLesser, IsThrough, IsNegativeTrip}
use Rattle.diff_bounds.proofs.Places.{word-set_same, word-set_other}
use Rattle.diff_bounds.proofs.Steps.{same_second}

pub short_along : (x y : ℤ) → y ≡ x → IsShort x → IsShort y
short_along x y e s = subst (λ (z : ℤ). IsShort z) (sym e) s

pub lesser_along : (best first second x best2 first2 second2 x2 : ℤ) → best2 ≡ best → first2 ≡ first → second2 ≡ second → x2 ≡ x → IsLesser best first second x → IsLesser best2 first2 second2 x2
lesser_along best first second x best2 first2 second2 x2 e f g h l =
    subst (λ (z : ℤ). IsLesser z first2 second2 x2) (sym e)
    (subst (λ (z : ℤ). IsLesser best z second2 x2) (sym f)
    (subst (λ (z : ℤ). IsLesser best first z x2) (sym g)
    (subst (λ (z : ℤ). IsLesser best first second z) (sym h) l)))

-- ---- along a row
-- the columns before this one are done
pub record ColumnsDone (n : ℕ) (old : List ℤ) (via row column : ℕ) (m : List ℤ) : Type 0 where
  pub done : (j : ℕ) → j < column → IsLesser (word n old row j) (word n old row via) (word n old via j) (word n m row j)
  pub left : (j : ℕ) → column ≤ j → j < n → word n m row j ≡ word n old row j
  pub others : (i j : ℕ) → i < n → j < n → i ≢ row → word n m i j ≡ word n old i j

pub columns_none : (n : ℕ) (old : List ℤ) (via row : ℕ) → ColumnsDone n old via row 0 old
columns_none n old via row = record { done = λ j h. absurd (omega arith); left = λ j h g. refl; others = λ i j h g ne. refl }

pub via_word : (n : ℕ) (old : List ℤ) (via row column : ℕ) (m : List ℤ) → ColumnsDone n old via row column m → via < n → column < n → word n m via column ≡ word n old via column
via_word n old via row column m are h g =
    elim (cases_eq via row) as (λ _. word n m via column ≡ word n old via column) [
      | inl e ↦ subst (λ (i : ℕ). word n m i column ≡ word n old i column) (sym e) (are.left column (omega arith) g)
      | inr ne ↦ are.others via column h g ne
    ]

pub columns_more : (n : ℕ) (old : List ℤ) (via row column : ℕ) (m : List ℤ) (at : ℕ) (x : ℤ) → length m ≡ n * n → row < n → column < n → at ≡ row * n + column → ColumnsDone n old via row column m → IsLesser (word n old row column) (word n old row via) (word n old via column) x → ColumnsDone n old via row (column + 1) (set m at x)
columns_more n old via row column m at x fits h g is are l = record {
  done = done;
  left = λ j k b. word-set_other n m row column at x row j g b is (λ e f. absurd (omega arith)) ∙ are.left j (omega arith) b;
  others = λ i j k b ne. word-set_other n m row column at x i j g b is (λ e f. ne e) ∙ are.others i j k b ne;
}
  where
    done : (j : ℕ) → j < column + 1 → IsLesser (word n old row j) (word n old row via) (word n old via j) (word n (set m at x) row j)
    done j k = elim (cases_eq j column) as (λ _. IsLesser (word n old row j) (word n old row via) (word n old via j) (word n (set m at x) row j)) [
      | inl e ↦ subst (λ (c : ℕ). IsLesser (word n old row c) (word n old row via) (word n old via c) (word n (set m at x) row c)) (sym e)
          (subst (λ (z : ℤ). IsLesser (word n old row column) (word n old row via) (word n old via column) z) (sym (word-set_same n m row column at x fits h g is)) l)
      | inr ne ↦ subst (λ (z : ℤ). IsLesser (word n old row j) (word n old row via) (word n old via j) z)
          (sym (word-set_other n m row column at x row j g (omega arith) is (λ e f. ne f))) (are.done j (omega arith))
    ]

-- ---- row after row
-- the rows before this one are done, and their words on the diagonal are zero
pub record RowsDone (n : ℕ) (old : List ℤ) (via row : ℕ) (m : List ℤ) : Type 0 where
  pub done : (i j : ℕ) → i < row → j < n → IsLesser (word n old i j) (word n old i via) (word n old via j) (word n m i j)
  pub left : (i j : ℕ) → row ≤ i → i < n → j < n → word n m i j ≡ word n old i j
  pub diagonal : (i : ℕ) → i < row → word n m i i ≡ pos 0

pub rows_none : (n : ℕ) (old : List ℤ) (via : ℕ) → RowsDone n old via 0 old
rows_none n old via = record { done = λ i j h. absurd (omega arith); left = λ i j k h g. refl; diagonal = λ i h. absurd (omega arith) }

-- the row of the place itself stays as it was
pub via_row : (n : ℕ) (old : List ℤ) (via row : ℕ) (m : List ℤ) → RowsDone n old via row m → word n old via via ≡ pos 0 → via < n → (j : ℕ) → j < n → word n m via j ≡ word n old via j
via_row n old via row m are zero_sum h j g =
    elim (cases_lt via row) as (λ _. word n m via j ≡ word n old via j) [
      | inl lt ↦ same_second (word n old via j) (word n old via via) (word n m via j) zero_sum (are.done via j lt g)
      | inr le ↦ are.left via j le h g
    ]

-- what a row has gone through
pub record RowDone (n : ℕ) (m : List ℤ) (via row : ℕ) (new : List ℤ) : Type 0 where
  pub words : (j : ℕ) → j < n → IsLesser (word n m row j) (word n m row via) (word n m via j) (word n new row j)
  pub others : (i j : ℕ) → i < n → j < n → i ≢ row → word n new i j ≡ word n m i j

row_through : (n : ℕ) (old : List ℤ) (via row : ℕ) (m new : List ℤ) → RowsDone n old via row m → word n old via via ≡ pos 0 → via < n → row < n → RowDone n m via row new → (j : ℕ) → j < n → IsLesser (word n old row j) (word n old row via) (word n old via j) (word n new row j)
row_through n old via row m new are zero_sum h g r j k =
    lesser_along _ _ _ _ (word n old row j) (word n old row via) (word n old via j) (word n new row j)
    (sym (are.left row j (omega arith) g k)) (sym (are.left row via (omega arith) g h)) (sym (via_row n old via row m are zero_sum h j k)) refl (r.words j k)

pub rows_more : (n : ℕ) (old : List ℤ) (via row : ℕ) (m new : List ℤ) → RowsDone n old via row m → ((i : ℕ) → i < n → word n old i i ≡ pos 0) → via < n → row < n → RowDone n m via row new → pos 0 ≤ℤ word n new row row → RowsDone n old via (row + 1) new
rows_more n old via row m new are zeros h g r positive = record {
  done = done;
  left = λ i j k b d. r.others i j b d (λ e. absurd (omega arith)) ∙ are.left i j (omega arith) b d;
  diagonal = λ i k. elim (cases_eq i row) as (λ _. word n new i i ≡ pos 0) [
    | inl e ↦ subst (λ (x : ℕ). word n new x x ≡ pos 0) (sym e) here
    | inr ne ↦ r.others i i (omega arith) (omega arith) ne ∙ are.diagonal i (omega arith)
  ];
}
  where
    l : (j : ℕ) → j < n → IsLesser (word n old row j) (word n old row via) (word n old via j) (word n new row j)
    l = row_through n old via row m new are (zeros via h) h g r

    here : word n new row row ≡ pos 0
    here = let kept : word n new row row ≤ℤ word n old row row = (l row g).kept in let zero_sum : word n old row row ≡ pos 0 = zeros row g in omega (arith, ints)

    done : (i j : ℕ) → i < row + 1 → j < n → IsLesser (word n old i j) (word n old i via) (word n old via j) (word n new i j)
    done i j k b = elim (cases_eq i row) as (λ _. IsLesser (word n old i j) (word n old i via) (word n old via j) (word n new i j)) [
      | inl e ↦ subst (λ (x : ℕ). IsLesser (word n old x j) (word n old x via) (word n old via j) (word n new x j)) (sym e) (l j b)
      | inr ne ↦ subst (λ (z : ℤ). IsLesser (word n old i j) (word n old i via) (word n old via j) z) (sym (r.others i j (omega arith) b ne)) (are.done i j (omega arith) b)
    ]

pub trip_negative : (n : ℕ) (old : List ℤ) (via row : ℕ) (m new : List ℤ) → RowsDone n old via row m → ((i : ℕ) → i < n → word n old i i ≡ pos 0) → via < n → row < n → RowDone n m via row new → word n new row row <ℤ pos 0 → IsNegativeTrip (word n old) row via
trip_negative n old via row m new are zeros h g r negative = by_one l.one
  where
    l : IsLesser (word n old row row) (word n old row via) (word n old via row) (word n new row row)
    l = row_through n old via row m new are (zeros via h) h g r row g

    by_one : (word n new row row ≡ word n old row row) ⊎ (IsSum (word n old row via) × IsSum (word n old via row) × (word n new row row ≡ word n old row via +ℤ word n old via row)) → IsNegativeTrip (word n old) row via
    by_one (inl e) = absurd (let zero_sum : word n old row row ≡ pos 0 = zeros row g in omega (arith, ints))
    by_one (inr (s, t, e)) = record { out = s; back = t; negative = omega (arith, ints) }

pub through_of : (n : ℕ) (old : List ℤ) (via : ℕ) (m : List ℤ) → RowsDone n old via n m → IsThrough n via (word n old) (word n m)
through_of n old via m are = record { words = λ i j h g. are.done i j h g }
