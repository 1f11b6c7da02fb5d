-- Where the words of a cell stand.
use Rattle.std.proofs.Common.{◌≡◌, ℕ, zero, suc, ◌+◌, ◌*◌, ◌<◌, List, [], ◌∷◌, length, Some, None, ℤ, pos, slice_index_or, slice_set, refl, sym, ap, ◌∙◌, arith}
use Rattle.std.proofs.lemmas.Grind.{common_steps}
use Rattle.std.proofs.lemmas.Int.{ints}
use Rattle.interval_domain.specs.Known.{Known, IsOrdered}
use Rattle.interval_domain.specs.Elements.{AreOrdered}
use Rattle.interval_domain.specs.Rows.{low_of, high_of, known_of, words_in, cells_in, row_of, cells_of, IsReached, known_at}

pub cell_of_words : (c : Known) → IsOrdered c → known_of (low_of c) (high_of c) ≡ c
cell_of_words None h = refl
cell_of_words (Some i) h = grind (arith, ints, common_steps)

pub cell_of_ordered : (low high : ℤ) → IsOrdered (known_of low high)
cell_of_ordered low high = grind (arith, ints, common_steps)

pub cells_ordered : (words : List ℤ) → AreOrdered (cells_in words)
cells_ordered (low ∷ high ∷ words) = (cell_of_ordered low high, cells_ordered words)
cells_ordered (low ∷ []) = tt
cells_ordered [] = tt

pub cells_of_words : (cs : List Known) → AreOrdered cs → cells_in (words_in cs) ≡ cs
cells_of_words [] h = refl
cells_of_words (c ∷ cs) (h, hs) = rw (cell_of_words c h) (rw (cells_of_words cs hs) refl)

pub low_word : (cs : List Known) (k : ℕ) → k < length cs → slice_index_or (words_in cs) (2 * k) (pos 0) ≡ low_of (known_at cs k)
low_word [] k h = absurd (omega arith)
low_word (c ∷ cs) zero h = refl
low_word (c ∷ cs) (suc k) h = let e : 2 * suc k ≡ suc (suc (2 * k)) = omega arith in rw e (low_word cs k (omega arith))

pub high_word : (cs : List Known) (k : ℕ) → k < length cs → slice_index_or (words_in cs) (2 * k + 1) (pos 0) ≡ high_of (known_at cs k)
high_word [] k h = absurd (omega arith)
high_word (c ∷ cs) zero h = refl
high_word (c ∷ cs) (suc k) h = let e : 2 * suc k + 1 ≡ suc (suc (2 * k + 1)) = omega arith in rw e (high_word cs k (omega arith))

pub words_set : (cs : List Known) (k : ℕ) (c : Known) → k < length cs → slice_set (slice_set (words_in cs) (2 * k) (low_of c)) (2 * k + 1) (high_of c) ≡ words_in (slice_set cs k c)
words_set [] k c h = absurd (omega arith)
words_set (d ∷ cs) zero c h = refl
words_set (d ∷ cs) (suc k) c h =
    let e : 2 * suc k ≡ suc (suc (2 * k)) = omega arith in
    let f : suc (suc (2 * k)) + 1 ≡ suc (suc (2 * k + 1)) = omega arith in
    rw e (rw f (ap (λ ws. low_of d ∷ high_of d ∷ ws) (words_set cs k c (omega arith))))

pub words_length : (cs : List Known) → length (words_in cs) ≡ 2 * length cs
words_length [] = refl
words_length (c ∷ cs) = let e = words_length cs in omega (arith, e)

-- a row that is reached has a word before those of its cells
pub reached_length : (row : List ℤ) → IsReached row → length row ≡ 2 * length (cells_of row) + 1
reached_length row h = let e = ap (λ r. length r) h in let f = words_length (cells_of row) in omega (arith, e, f)

pub low_place : (row : List ℤ) (k : ℕ) → IsReached row → k < length (cells_of row) → 2 * k + 1 < length row
low_place row k h lt = let e = reached_length row h in omega (arith, e)

pub high_place : (row : List ℤ) (k : ℕ) → IsReached row → k < length (cells_of row) → 2 * k + 2 < length row
high_place row k h lt = let e = reached_length row h in omega (arith, e)

pub low_at : (row : List ℤ) (k : ℕ) → IsReached row → k < length (cells_of row) → slice_index_or row (2 * k + 1) (pos 0) ≡ low_of (known_at (cells_of row) k)
low_at row k h lt = ap (λ r. slice_index_or r (2 * k + 1) (pos 0)) h ∙ (let e : 2 * k + 1 ≡ suc (2 * k) = omega arith in rw e (low_word (cells_of row) k lt))

pub high_at : (row : List ℤ) (k : ℕ) → IsReached row → k < length (cells_of row) → slice_index_or row (2 * k + 2) (pos 0) ≡ high_of (known_at (cells_of row) k)
high_at row k h lt = ap (λ r. slice_index_or r (2 * k + 2) (pos 0)) h ∙ (let e : 2 * k + 2 ≡ suc (2 * k + 1) = omega arith in rw e (high_word (cells_of row) k lt))

ordered_at : (cs : List Known) (k : ℕ) → AreOrdered cs → IsOrdered (known_at cs k)
ordered_at [] k h = tt
ordered_at (c ∷ cs) zero (h, hs) = h
ordered_at (c ∷ cs) (suc k) (h, hs) = ordered_at cs k hs

of_row : (row : List ℤ) → AreOrdered (cells_of row)
of_row [] = tt
of_row (flag ∷ words) = cells_ordered words

-- the cell that two words say
pub cell_by_words : (row : List ℤ) (k : ℕ) → IsReached row → k < length (cells_of row) → known_of (slice_index_or row (2 * k + 1) (pos 0)) (slice_index_or row (2 * k + 2) (pos 0)) ≡ known_at (cells_of row) k
cell_by_words row k h lt =
    rw (low_at row k h lt) (rw (high_at row k h lt) (cell_of_words (known_at (cells_of row) k) (ordered_at (cells_of row) k (of_row row))))

set_ordered : (cs : List Known) (k : ℕ) (c : Known) → AreOrdered cs → IsOrdered c → AreOrdered (slice_set cs k c)
set_ordered [] k c hs h = tt
set_ordered (d ∷ cs) zero c (hd, hs) h = (h, hs)
set_ordered (d ∷ cs) (suc k) c (hd, hs) h = (hd, set_ordered cs k c hs h)

-- two words set are a cell set
pub row_set : (row : List ℤ) (k : ℕ) (c : Known) → IsReached row → k < length (cells_of row) → slice_set (slice_set row (2 * k + 1) (low_of c)) (2 * k + 2) (high_of c) ≡ row_of (slice_set (cells_of row) k c)
row_set row k c h lt = ap (λ r. slice_set (slice_set r (2 * k + 1) (low_of c)) (2 * k + 2) (high_of c)) h ∙ (let e : 2 * k + 1 ≡ suc (2 * k) = omega arith in let f : 2 * k + 2 ≡ suc (2 * k + 1) = omega arith in rw e (rw f (ap (λ ws. pos 1 ∷ ws) (words_set (cells_of row) k c lt))))

pub cells_of_row : (cs : List Known) → AreOrdered cs → cells_of (row_of cs) ≡ cs
cells_of_row cs h = cells_of_words cs h

pub cells_set : (row : List ℤ) (k : ℕ) (c : Known) → IsReached row → k < length (cells_of row) → IsOrdered c → cells_of (row_of (slice_set (cells_of row) k c)) ≡ slice_set (cells_of row) k c
cells_set row k c h lt o = cells_of_row (slice_set (cells_of row) k c) (set_ordered (cells_of row) k c (of_row row) o)

pub cell_at_ordered : (row : List ℤ) (k : ℕ) → IsOrdered (known_at (cells_of row) k)
cell_at_ordered row k = ordered_at (cells_of row) k (of_row row)

pub reached_of_row : (cs : List Known) → AreOrdered cs → IsReached (row_of cs)
reached_of_row cs h = ap row_of (sym (cells_of_row cs h))

pub words_are_cell : (row : List ℤ) (k place : ℕ) (low high : ℤ) (c : Known) → place ≡ 2 * k + 1 → low ≡ low_of c → high ≡ high_of c → IsReached row → k < length (cells_of row) → slice_set (slice_set row place low) (place + 1) high ≡ row_of (slice_set (cells_of row) k c)
words_are_cell row k place low high c e f g h lt =
    rw e (rw f (rw g (let p : 2 * k + 1 + 1 ≡ 2 * k + 2 = omega arith in rw p (row_set row k c h lt))))

pub set_reached : (row : List ℤ) (k : ℕ) (c : Known) → IsOrdered c → IsReached (row_of (slice_set (cells_of row) k c))
set_reached row k c o = reached_of_row (slice_set (cells_of row) k c) (set_ordered (cells_of row) k c (of_row row) o)

pub cell_is : (row : List ℤ) (k place : ℕ) (low high : ℤ) → place ≡ 2 * k + 1 → low ≡ slice_index_or row place (pos 0) → high ≡ slice_index_or row (place + 1) (pos 0) → IsReached row → k < length (cells_of row) → known_of low high ≡ known_at (cells_of row) k
cell_is row k place low high e f g h lt =
    rw f (rw g (rw e (let p : 2 * k + 1 + 1 ≡ 2 * k + 2 = omega arith in rw p (cell_by_words row k h lt))))
