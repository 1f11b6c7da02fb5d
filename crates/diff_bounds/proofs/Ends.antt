-- The first sums and the last words of a closure.
use Rattle.std.proofs.Common.{◌≡◌, ℕ, ◌+◌, ◌*◌, ◌<◌, List, length, get_or, ℤ, pos, sym, subst, ◌∙◌, arith}
use Rattle.diff_bounds.specs.Matrix.{word, IsMatrix, IsWord}
use Rattle.diff_bounds.specs.Paths.{cut_of}
use Rattle.diff_bounds.specs.Sums.{IsSumOf, IsTight}
use Rattle.diff_bounds.proofs.Walks.{AreWords}
use Rattle.diff_bounds.proofs.Places.{place_fits}
use Rattle.diff_bounds.proofs.Tightness.{AreOpened}
use Rattle.diff_bounds.proofs.Steps.{cut_is_word, cut_zero}

pub opened_of : (n : ℕ) (old new : List ℤ) → length old ≡ n * n → ((k : ℕ) → k < length old → IsSumOf (get_or old k (pos 0)) (get_or new k (pos 0))) → AreOpened n (word n old) (word n new)
opened_of n old new e each = record { words = λ i j h g. each (i * n + j) (omega (arith, place_fits n i j h g)) }

pub words_of : (size : ℕ) (m : List ℤ) → IsMatrix size m → AreWords (size + 1) (word (size + 1) m)
words_of size m is = record { words = λ i j h g. is.words (i * (size + 1) + j) (omega (arith, is.width, place_fits (size + 1) i j h g)) }

-- the words after the cut
pub record AreCut (old new : List ℤ) : Type 0 where
  pub width : length new ≡ length old
  pub cuts : (k : ℕ) → k < length old → get_or new k (pos 0) ≡ cut_of (get_or old k (pos 0))

pub cut_words : (n : ℕ) (old new : List ℤ) → length old ≡ n * n → AreCut old new → (i j : ℕ) → i < n → j < n → word n new i j ≡ cut_of (word n old i j)
cut_words n old new e are i j h g = are.cuts (i * n + j) (omega (arith, place_fits n i j h g))

pub cut_matrix : (size : ℕ) (first sums new : List ℤ) → length sums ≡ (size + 1) * (size + 1) → AreCut sums new → IsTight (size + 1) (size + 1) (word (size + 1) first) (word (size + 1) sums) → IsMatrix size new
cut_matrix size first sums new e are t = record {
  width = are.width ∙ e;
  words = λ k h. subst (λ (x : ℤ). IsWord x) (sym (are.cuts k (omega (arith, are.width)))) (cut_is_word (get_or sums k (pos 0)));
  diagonal = λ i h. cut_words (size + 1) sums new e are i i h h ∙ cut_zero (word (size + 1) sums i i) (t.diagonal i h);
}
