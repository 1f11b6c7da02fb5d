-- Numbers that are cut at a bound.
use Rattle.std.proofs.Common.{ℕ, ◌+◌, ◌≡◌, ◌<◌, ◌≤◌, min, refl, sym, ◌∙◌, arith}

-- ---- numbers that are the same up to a bound

-- the same where they are cut
abbrev pub Alike : ℕ → ℕ → ℕ → Type 0
Alike cap a b = min a cap ≡ min b cap

pub alike_sum : (cap a b c d : ℕ) → Alike cap a b → Alike cap c d → Alike cap (a + c) (b + d)
alike_sum cap a b c d = λ x y. omega arith

-- a constant before
pub alike_more : (cap n a b : ℕ) → Alike cap a b → Alike cap (n + a) (n + b)
alike_more cap n a b = λ x. omega arith

pub twice_cut : (n m cap : ℕ) → n ≡ min m cap → min n cap ≡ min m cap
twice_cut n m cap = λ e. omega arith

-- below the bound nothing is cut
pub uncut : (cap n told a b : ℕ) → n ≡ told → told ≡ min a cap → min a cap ≡ min b cap → n < cap → n ≡ b
uncut cap n told a b = λ w x y z. omega arith

pub whole : (cap n told a : ℕ) → n ≡ told → told ≡ min a cap → n < cap → n ≡ a
whole cap n told a = λ w x z. omega arith

pub counted_all : (cap sum count n m : ℕ) → sum ≡ min n cap → count ≡ min (1 + sum) cap → min n cap ≡ min m cap →
    count ≡ min (1 + m) cap
counted_all cap sum count n m = λ a b c. omega arith

pub counted_more : (cap count n k : ℕ) → count ≡ min n cap → k < count → k < n
counted_more cap count n k = λ a b. omega arith

pub counted_most : (cap count n k : ℕ) → count ≡ min n cap → k < cap → count ≤ k → n ≤ k
counted_most cap count n k = λ a b c. omega arith
