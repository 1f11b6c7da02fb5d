-- Words of matrices that are given by row and column.
use Rattle.std.proofs.Common.{◌≡◌, ℕ, ◌+◌, ◌*◌, ◌/◌, ◌%◌, ◌<◌, ◌≤◌, List, ℤ, pos, ◌≤ℤ◌, ap, ◌∙◌, arith}
use Rattle.std.specs.Int.{int_min}
use Rattle.std.proofs.lemmas.Int.{ints, clamps}
use Rattle.std.proofs.lemmas.Nat.{div-mul-add, mod-mul-add}
use Rattle.std.proofs.lemmas.List.FromFn.{get_or-map-range_with_len}
use Rattle.diff_bounds.specs.Matrix.{word}
use Rattle.diff_bounds.proofs.Places.{place_fits}
use Rattle.diff_steps.specs.Matrices.{with_words, lesser}

pub word_at : (size : ℕ) (w : ℕ → ℕ → ℤ) (i j : ℕ) → i < size + 1 → j < size + 1 → word (size + 1) (with_words size w) i j ≡ w i j
word_at size w i j h g =
    let here = get_or-map-range_with_len (λ k. w (k / (size + 1)) (k % (size + 1))) 0 ((size + 1) * (size + 1)) (i * (size + 1) + j) (i * (size + 1) + j) (pos 0) (place_fits (size + 1) i j h g) (omega arith) in
    here ∙ ap (λ (x : ℕ). w x ((i * (size + 1) + j) % (size + 1))) (div-mul-add i (size + 1) j g) ∙ ap (λ (x : ℕ). w i x) (mod-mul-add i (size + 1) j g)

pub lesser_word : (size : ℕ) (x y : List ℤ) (i j : ℕ) → i ≤ size → j ≤ size → word (size + 1) (lesser size x y) i j ≡ int_min (word (size + 1) x i j) (word (size + 1) y i j)
lesser_word size x y i j h g = word_at size (λ i j. int_min (word (size + 1) x i j) (word (size + 1) y i j)) i j (omega arith) (omega arith)

-- ---- the lesser of two words

pub min_left : (x y z t : ℤ) → z ≡ int_min x y → x ≤ℤ t → z ≤ℤ t
min_left x y z t e h = omega (arith, ints, clamps, e, h)

pub min_right : (x y z t : ℤ) → z ≡ int_min x y → y ≤ℤ t → z ≤ℤ t
min_right x y z t e h = omega (arith, ints, clamps, e, h)

pub min_both : (x y z p q r : ℤ) → z ≡ int_min x y → r ≡ int_min p q → x ≤ℤ p → y ≤ℤ q → z ≤ℤ r
min_both x y z p q r e f h k = omega (arith, ints, clamps, e, f, h, k)
