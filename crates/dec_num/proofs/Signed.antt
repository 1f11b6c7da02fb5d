-- Products of a signed number with a natural one.
use Rattle.std.proofs.Common.{◌≡◌, ℕ, zero, suc, ◌+◌, ◌*◌, ℤ, pos, negsuc, neg_ℤ, ◌+ℤ◌, ◌*ℤ◌, refl, ap, sym, arith}
use Rattle.std.proofs.lemmas.Int.{ints}
use Rattle.std.proofs.Math.Nat.{mul_assoc}
use Rattle.std.proofs.Math.IntN.{negsuc-*ℤ-pos, neg_ℤ-neg_ℤ}
use borrow.Author.Differences.{up, down, same_in}

neg_times : (k n : ℕ) → neg_ℤ (pos k) *ℤ pos n ≡ neg_ℤ (pos (k * n))
neg_times zero n = let e : 0 * n ≡ 0 = omega arith in rw e refl
neg_times (suc k) n = negsuc-*ℤ-pos k n

-- the two parts of a product
parts_of_times : (x : ℤ) (n : ℕ) → up (x *ℤ pos n) + down x * n ≡ down (x *ℤ pos n) + up x * n
parts_of_times (pos a) n = omega (arith, ints)
parts_of_times (negsuc a) n = omega (arith, ints)

pub times_times : (x : ℤ) (m n : ℕ) → (x *ℤ pos m) *ℤ pos n ≡ x *ℤ pos (m * n)
times_times (pos a) m n = ap pos (mul_assoc a m n)
times_times (negsuc a) m n = rw (neg_times (suc a * m) n) (ap (λ k. neg_ℤ (pos k)) (mul_assoc (suc a) m n))

parts_of_sum : (x y : ℤ) → up (x +ℤ y) + (down x + down y) ≡ down (x +ℤ y) + (up x + up y)
parts_of_sum x y = omega (arith, ints)

pub sum_times : (x y : ℤ) (n : ℕ) → (x +ℤ y) *ℤ pos n ≡ x *ℤ pos n +ℤ y *ℤ pos n
sum_times x y n =
    same_in _ _ (omega (arith, ints, parts_of_times (x +ℤ y) n, parts_of_times x n, parts_of_times y n, ap (λ k. k * n) (parts_of_sum x y)))

pub neg_ℤ_times : (x : ℤ) (n : ℕ) → neg_ℤ x *ℤ pos n ≡ neg_ℤ (x *ℤ pos n)
neg_ℤ_times (pos a) n = neg_times a n
neg_ℤ_times (negsuc a) n = sym (neg_ℤ-neg_ℤ (pos (suc a * n)))
