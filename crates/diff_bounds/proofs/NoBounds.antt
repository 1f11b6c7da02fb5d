-- The matrix of no bounds, whose diagonal is written place by place.
use Rattle.std.proofs.Common.{◌≡◌, ℕ, ◌+◌, ◌*◌, ◌<◌, ◌≤◌, List, length, get_or, set, ℤ, pos, inl, inr, sym, subst, ◌∙◌, arith}
use Rattle.std.proofs.lemmas.Int.{ints}
use Rattle.std.proofs.lemmas.Bool.{cases_eq}
use Rattle.std.proofs.lemmas.List.{get_or-set_other, length-set, length-replicate, get_or-replicate}
use Rattle.std.proofs.lemmas.Grind.{get_or-set_at}
use Rattle.std.proofs.Math.ListN.{replicate}
use Rattle.diff_bounds.specs.Matrix.{word, none, IsWord, IsMatrix}
use Rattle.diff_bounds.proofs.Places.{place_fits, word-set_same, word-set_other}

-- no bounds, and zeros at the first places of the diagonal
pub record IsCleared (size count : ℕ) (m : List ℤ) : Type 0 where
  pub width : length m ≡ (size + 1) * (size + 1)
  pub words : (k : ℕ) → k < length m → IsWord (get_or m k (pos 0))
  pub zeros : (i : ℕ) → i < count → word (size + 1) m i i ≡ pos 0

none_is_word : (x : ℤ) → x ≡ none → IsWord x
none_is_word x e = record { low = omega (arith, ints); high = λ b. absurd (omega (arith, ints)); top = omega (arith, ints) }

zero_is_word : (x : ℤ) → x ≡ pos 0 → IsWord x
zero_is_word x e = record { low = omega (arith, ints); high = λ b. omega (arith, ints); top = omega (arith, ints) }

pub cleared_first : (size n : ℕ) → n ≡ (size + 1) * (size + 1) → IsCleared size 0 (replicate n none)
cleared_first size n e = record {
  width = length-replicate n none ∙ e;
  words = λ k h. none_is_word (get_or (replicate n none) k (pos 0)) (get_or-replicate n k none (pos 0) (omega (arith, length-replicate n none)));
  zeros = λ i h. absurd (omega arith);
}

pub cleared_more : (size count at : ℕ) (x : ℤ) (m : List ℤ) → count < size + 1 → at ≡ count * (size + 1) + count → x ≡ pos 0 → IsCleared size count m → IsCleared size (count + 1) (set m at x)
cleared_more size count at x m few is zero_word are = record {
  width = length-set m at x ∙ are.width;
  words = λ k h. elim (cases_eq k at) as (λ _. IsWord (get_or (set m at x) k (pos 0))) [
    | inl e ↦ zero_is_word (get_or (set m at x) k (pos 0)) (get_or-set_at m at k x (pos 0) e (omega (arith, are.width, place_fits (size + 1) count count few few)) ∙ zero_word)
    | inr ne ↦ subst (λ (y : ℤ). IsWord y) (sym (get_or-set_other m at k x (pos 0) ne)) (are.words k (omega (arith, length-set m at x)))
  ];
  zeros = λ i h. elim (cases_eq i count) as (λ _. word (size + 1) (set m at x) i i ≡ pos 0) [
    | inl e ↦ subst (λ (j : ℕ). word (size + 1) (set m at x) j j ≡ pos 0) (sym e) (word-set_same (size + 1) m count count at x are.width few few is ∙ zero_word)
    | inr ne ↦ word-set_other (size + 1) m count count at x i i few (omega arith) is (λ e f. ne e) ∙ are.zeros i (omega arith)
  ];
}

pub cleared_matrix : (size count : ℕ) (m : List ℤ) → size + 1 ≤ count → IsCleared size count m → IsMatrix size m
cleared_matrix size count m all are = record { width = are.width; words = are.words; diagonal = λ i h. are.zeros i (omega arith) }
