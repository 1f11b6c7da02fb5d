-- Rows that are filled with one level, word by word.
use Rattle.std.proofs.Common.{◌≡◌, ℕ, ◌+◌, ◌<◌, ◌≤◌, List, ℤ, pos, length, get_or, slice_set, inl, inr, refl, ap, sym, ◌∙◌, arith, length-set, get_or-set_same, get_or-set_other, ext_get_or}
use Rattle.std.specs.Prelude.{◌≤ℤ◌, ◌<ℤ◌}
use Rattle.std.proofs.lemmas.Int.{ints, by_lt_z}
use Rattle.std.proofs.lemmas.Bool.{cases_eq}
use Rattle.std.proofs.lemmas.List.{length-replicate, get_or-replicate}
use Rattle.bench.specs.Wide.{word, row_of}

-- the first words have one level, and the others are as they were
pub record FilledTo (old row : List ℤ) (level : ℤ) (k : ℕ) : Type 0 where
  pub count : length row ≡ length old
  pub below : (j : ℕ) → j < k → get_or row j (pos 0) ≡ level
  pub above : (j : ℕ) → k ≤ j → get_or row j (pos 0) ≡ get_or old j (pos 0)

pub filled_none : (old : List ℤ) (level : ℤ) → FilledTo old old level 0
filled_none old level = record { count = refl; below = λ j less. absurd (omega arith); above = λ j le. refl }

pub filled_more : (old row : List ℤ) (level : ℤ) (k : ℕ) (z : ℤ) → k < length old → z ≡ level → FilledTo old row level k → FilledTo old (slice_set row k z) level (k + 1)
filled_more old row level k z less is filled = record {
  count = length-set row k z ∙ filled.count;
  below = λ j at. elim (cases_eq j k) [
    | inl same ↦ ap (λ n. get_or (slice_set row k z) n (pos 0)) same ∙ get_or-set_same row k z (pos 0) (omega (arith, less, filled.count)) ∙ is
    | inr off ↦ get_or-set_other row k j z (pos 0) off ∙ filled.below j (omega arith)
  ];
  above = λ j le. get_or-set_other row k j z (pos 0) (omega arith) ∙ filled.above j (omega arith);
}

pub filled_all : (old row : List ℤ) (level : ℤ) (k : ℕ) → length old ≡ 600 → 600 ≤ k → FilledTo old row level k → row ≡ row_of level
filled_all old row level k wide all filled =
    ext_get_or (pos 0) row (row_of level) (filled.count ∙ wide ∙ sym (length-replicate 600 level))
    (λ j less. filled.below j (omega (arith, less, filled.count, wide, all)) ∙ sym (get_or-replicate 600 j level (pos 0) (omega (arith, less, filled.count, wide))))

pub row_width : (row : List ℤ) → row ≡ row_of (word row) → length row ≡ 600
row_width row is = ap length is ∙ length-replicate 600 (word row)

-- each word of such a row is its level
pub word_at : (row : List ℤ) (k : ℕ) (d : ℤ) → row ≡ row_of (word row) → k < length row → get_or row k d ≡ word row
word_at row k d is less = ap (λ r. get_or r k d) is ∙ get_or-replicate 600 k (word row) d (omega (arith, less, row_width row is))

above_or_not : (p q x y : ℤ) → x ≡ p → y ≡ q → y <ℤ x → ¬ p ≤ℤ q
above_or_not p q x y is also less le = omega (arith, ints, is, also, less, le)

-- the words of two rows at one place tell their levels
pub above_tells : (a b : List ℤ) (k : ℕ) → a ≡ row_of (word a) → b ≡ row_of (word b) → k < length a → get_or b k (pos 0) <ℤ get_or a k (pos 0) → ¬ word a ≤ℤ word b
above_tells a b k of_a of_b less above =
    above_or_not (word a) (word b) (get_or a k (pos 0)) (get_or b k (pos 0)) (word_at a k (pos 0) of_a less) (word_at b k (pos 0) of_b (omega (arith, less, row_width a of_a, row_width b of_b))) above

not_above : (p q x y : ℤ) → x ≡ p → y ≡ q → ¬ y <ℤ x → p ≤ℤ q
not_above p q x y is also off = by_lt_z y x (λ (lt : y <ℤ x). absurd (off lt)) (λ (le : x ≤ℤ y). omega (arith, ints, is, also, le))

pub below_tells : (a b : List ℤ) (k : ℕ) → a ≡ row_of (word a) → b ≡ row_of (word b) → k < length a → ¬ get_or b k (pos 0) <ℤ get_or a k (pos 0) → word a ≤ℤ word b
below_tells a b k of_a of_b less off =
    not_above (word a) (word b) (get_or a k (pos 0)) (get_or b k (pos 0)) (word_at a k (pos 0) of_a less) (word_at b k (pos 0) of_b (omega (arith, less, row_width a of_a, row_width b of_b))) off
