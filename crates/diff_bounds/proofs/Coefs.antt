-- The list of a form's coefficients.
use Rattle.std.proofs.Common.{◌≡◌, ℕ, ◌+◌, ◌-◌, ◌<◌, ◌≤◌, ◌⊎◌, inl, inr, List, length, get_or, set, ℤ, pos, refl, subst, sym, ◌∙◌, arith}
use Rattle.std.proofs.lemmas.List.{length-set, get_or-set_other}
use Rattle.std.proofs.lemmas.Bool.{cases_eq}
use Rattle.std.proofs.lemmas.Grind.{get_or-set_at}
use Rattle.std.proofs.lemmas.List.FromFn.{fill_by_all, get_or-map-range_with_len, length-map-range_with_len}
use Rattle.interval_domain.specs.Bounds.{IsSmall}
use Rattle.diff_bounds.specs.Forms.{coefs_of, AreSmallCoefs}

pub coef-coefs_of : (c : ℕ → ℤ) (k : ℕ) → k < 8 → get_or (coefs_of c) k (pos 0) ≡ c k
unfolding coefs_of
coef-coefs_of c k h = get_or-map-range_with_len c 0 8 k k (pos 0) h (omega arith)

pub length-coefs_of : (c : ℕ → ℤ) → length (coefs_of c) ≡ 8
unfolding coefs_of
length-coefs_of c = length-map-range_with_len c 0 8

coefs_from : (c : ℕ → ℤ) (xs : List ℤ) → length xs ≡ 8 → ((k : ℕ) → k < 8 → get_or xs k (pos 0) ≡ c k) → xs ≡ coefs_of c
unfolding coefs_of
coefs_from c xs e h = fill_by_all c xs 8 (pos 0) e h

-- The first n coefficients are small, and the list has them.
pub record ArePut (c : ℕ → ℤ) (n : ℕ) (xs : List ℤ) : Type 0 where
  pub width : length xs ≡ 8
  pub small : (k : ℕ) → k < n → IsSmall (c k)
  pub put : (k : ℕ) → k < n → get_or xs k (pos 0) ≡ c k

pub put_none : (c : ℕ → ℤ) (xs : List ℤ) → length xs ≡ 8 → ArePut c 0 xs
put_none c xs e = record { width = e; small = λ k h. absurd (omega arith); put = λ k h. absurd (omega arith) }

pub put_more : (c : ℕ → ℤ) (n : ℕ) (xs : List ℤ) (x : ℤ) → n < 8 → ArePut c n xs → IsSmall (c n) → x ≡ c n → ArePut c (n + 1) (set xs n x)
put_more c n xs x lt are small e = record {
  width = length-set xs n x ∙ are.width;
  small = λ k h. small_at k h (cases_eq k n);
  put = λ k h. put_at k h (cases_eq k n);
}
  where
    small_at : (k : ℕ) → k < n + 1 → (k ≡ n) ⊎ (k ≡ n → ⊥) → IsSmall (c k)
    small_at k h (inl same) = subst (λ (j : ℕ). IsSmall (c j)) (sym same) small
    small_at k h (inr other) = are.small k (omega arith)

    put_at : (k : ℕ) → k < n + 1 → (k ≡ n) ⊎ (k ≡ n → ⊥) → get_or (set xs n x) k (pos 0) ≡ c k
    put_at k h (inl same) = get_or-set_at xs n k x (pos 0) same (let w = are.width in omega arith) ∙ e ∙ subst (λ (j : ℕ). c n ≡ c j) (sym same) refl
    put_at k h (inr other) = get_or-set_other xs n k x (pos 0) other ∙ are.put k (omega arith)

pub put_all : (c : ℕ → ℤ) (n : ℕ) (xs : List ℤ) → 8 ≤ n → ArePut c n xs → AreSmallCoefs c × (xs ≡ coefs_of c)
put_all c n xs h are = (record { small = λ k lt. are.small k (omega arith) }, coefs_from c xs are.width (λ k lt. are.put k (omega arith)))
