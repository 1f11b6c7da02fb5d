-- A quotient of decimals by their units.
use Rattle.std.proofs.Common.{◌≡◌, ℕ, ◌+◌, ◌-◌, ◌*◌, ◌^◌, ◌<◌, suc, ℤ, pos, negsuc, neg_ℤ, inl, inr, refl, sym, ap, ◌∙◌, arith}
use Rattle.std.specs.Prelude.{unsigned_abs, ◌-ℤ◌, ◌*ℤ◌}
use Rattle.std.proofs.lemmas.Int.{ints, unsigned_abs-mul}
use Rattle.std.proofs.lemmas.Bool.{cases_lt}
use Rattle.std.proofs.Math.IntN.{negsuc-*ℤ-pos}
use Rattle.std.proofs.lemmas.Nat.{mul-le}
use Rattle.dec_num.specs.declared.types.Mode.{Mode}
use Rattle.dec_num.specs.Exact.{with_sign_of, near, near_size, ratio_of}
use Rattle.dec_num.proofs.Powers.{ten_positive, ten-add, ten_split}
use Rattle.dec_num.proofs.Signed.{neg_ℤ_times}
use Rattle.dec_num.proofs.Near.{rounded_common}

minus_is : (m : ℕ) → 0 < m → neg_ℤ (pos m) ≡ negsuc (m - 1)
minus_is m h = omega (arith, ints)

negative_times : (a p : ℕ) → 0 < p → negsuc a *ℤ pos p ≡ negsuc (suc a * p - 1)
negative_times a p h = negsuc-*ℤ-pos a p ∙ minus_is (suc a * p) (omega (arith, mul-le 1 1 (suc a) p (omega arith) h))

ratio_times : (n d : ℤ) (p q : ℕ) → 0 < q → ratio_of (n *ℤ pos p) (d *ℤ pos q) ≡ record { top = (ratio_of n d).top *ℤ pos p; bottom = (ratio_of n d).bottom * q }
ratio_times n (pos d) p q h = refl
ratio_times n (negsuc d) p q h =
    let some : 0 < suc d * q = omega (arith, mul-le 1 1 (suc d) q (omega arith) h) in
    let whole : suc (suc d * q - 1) ≡ suc d * q = omega (arith, some) in
    ap (ratio_of (n *ℤ pos p)) (minus_is (suc d * q) some)
    ∙ ap (λ b. record { top = neg_ℤ (n *ℤ pos p); bottom = b }) whole
    ∙ ap (λ t. record { top = t; bottom = suc d * q }) (sym (neg_ℤ_times n p))

sign_times : (t : ℤ) (p size : ℕ) → 0 < p → with_sign_of (t *ℤ pos p) size ≡ with_sign_of t size
sign_times (pos a) p size h = refl
sign_times (negsuc a) p size h = rw (negative_times a p h) refl

size_shift : (mode : Mode) (t : ℤ) (b k i j : ℕ) (up : ℤ) → up ≡ pos (k + i) -ℤ pos j →
    near_size mode (record { top = t *ℤ pos (10 ^ i); bottom = b * 10 ^ j }) (pos k) ≡ near_size mode (record { top = t; bottom = b }) up
size_shift mode t b k i j up e =
    elim (cases_lt (k + i) j) as (λ _. near_size mode (record { top = t *ℤ pos (10 ^ i); bottom = b * 10 ^ j }) (pos k) ≡ near_size mode (record { top = t; bottom = b }) up) [
      | inl low ↦
          let up_is : up ≡ negsuc (j - (k + i) - 1) = omega (arith, ints, e, low) in
          let size : unsigned_abs (t *ℤ pos (10 ^ i)) * 10 ^ k ≡ unsigned_abs t * 10 ^ (k + i) = omega (arith, unsigned_abs-mul t (pos (10 ^ i)), ap (λ x. x * 10 ^ k) (unsigned_abs-mul t (pos (10 ^ i))), ap (λ x. unsigned_abs t * x) (ten-add k i)) in
          let more : suc (j - (k + i) - 1) ≡ j - (k + i) = omega (arith, low) in
          let bottom : b * 10 ^ j ≡ b * 10 ^ suc (j - (k + i) - 1) * 10 ^ (k + i) = rw more (omega (arith, ap (λ x. b * x) (ten_split (k + i) j (omega (arith, low))))) in
          rw (up_is, size, bottom) (rounded_common mode (unsigned_abs t) (b * 10 ^ suc (j - (k + i) - 1)) (10 ^ (k + i)) (ten_positive (k + i)))
      | inr high ↦
          let up_is : up ≡ pos (k + i - j) = omega (arith, ints, e, high) in
          let size : unsigned_abs (t *ℤ pos (10 ^ i)) * 10 ^ k ≡ unsigned_abs t * 10 ^ (k + i - j) * 10 ^ j =
          omega (arith, ap (λ x. x * 10 ^ k) (unsigned_abs-mul t (pos (10 ^ i))), ap (λ x. unsigned_abs t * x) (ten-add k i), ap (λ x. unsigned_abs t * x) (ten_split j (k + i) high)) in
          rw (up_is, size) (rounded_common mode (unsigned_abs t * 10 ^ (k + i - j)) b (10 ^ j) (ten_positive j))
    ]

-- units raised by powers of ten give the quotient at another scale
pub near_shift : (mode : Mode) (n d : ℤ) (k i j : ℕ) (up : ℤ) → up ≡ pos (k + i) -ℤ pos j →
    near mode (ratio_of (n *ℤ pos (10 ^ i)) (d *ℤ pos (10 ^ j))) (pos k) ≡ near mode (ratio_of n d) up
near_shift mode n d k i j up e =
    let r = ratio_of n d in
    rw (ratio_times n d (10 ^ i) (10 ^ j) (ten_positive j))
    (sign_times r.top (10 ^ i) _ (ten_positive i) ∙ ap (with_sign_of r.top) (size_shift mode r.top r.bottom k i j up e))
