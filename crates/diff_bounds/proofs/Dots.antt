-- Coefficients times values, added up, of sums and multiples of coefficients.
use Rattle.std.proofs.Common.{◌≡◌, ℕ, zero, suc, ◌+◌, ◌*◌, ◌<◌, ℤ, pos, ◌+ℤ◌, ◌*ℤ◌, refl, sym, ap, ◌∙◌, arith}
use Rattle.std.proofs.lemmas.Int.{ints}
use Rattle.std.proofs.Math.IntN.{zero-*ℤ}
use borrow.Author.Differences.{up, down, product_is}
use Rattle.diff_bounds.specs.Forms.{dot}

pub sum_times : (x y v : ℤ) → (x +ℤ y) *ℤ v ≡ x *ℤ v +ℤ y *ℤ v
sum_times x y v =
    let parts : up (x +ℤ y) + (down x + down y) ≡ down (x +ℤ y) + (up x + up y) = omega (arith, ints) in
    omega (arith, ints, (product_is (x +ℤ y) v).0, (product_is (x +ℤ y) v).1, (product_is x v).0, (product_is x v).1, (product_is y v).0, (product_is y v).1, ap (λ (n : ℕ). n * up v) parts, ap (λ (n : ℕ). n * down v) parts)

-- the factors in another order
pub times_exchanged : (x y v : ℤ) → (x *ℤ y) *ℤ v ≡ (x *ℤ v) *ℤ y
times_exchanged x y v =
    let one = product_is x y in
    let other = product_is x v in
    let first = product_is (x *ℤ y) v in
    let second = product_is (x *ℤ v) y in
    omega (
      arith,
      ints,
      first.0,
      first.1,
      second.0,
      second.1,
      ap (λ (n : ℕ). n * up v) one.0,
      ap (λ (n : ℕ). n * down v) one.0,
      ap (λ (n : ℕ). n * up v) one.1,
      ap (λ (n : ℕ). n * down v) one.1,
      ap (λ (n : ℕ). n * up y) other.0,
      ap (λ (n : ℕ). n * down y) other.0,
      ap (λ (n : ℕ). n * up y) other.1,
      ap (λ (n : ℕ). n * down y) other.1,
    )

pub dot_of_sums : (c d e cells : ℕ → ℤ) (n : ℕ) → ((k : ℕ) → k < n → e k ≡ c k +ℤ d k) → dot e cells n ≡ dot c cells n +ℤ dot d cells n
unfolding dot
dot_of_sums c d e cells zero h = refl
dot_of_sums c d e cells (suc n) h =
    let here : e n *ℤ cells n ≡ c n *ℤ cells n +ℤ d n *ℤ cells n = ap (λ (x : ℤ). x *ℤ cells n) (h n (omega arith)) ∙ sum_times (c n) (d n) (cells n) in
    let before : dot e cells n ≡ dot c cells n +ℤ dot d cells n = dot_of_sums c d e cells n (λ k l. h k (omega arith)) in
    omega (arith, ints, here, before)

pub dot_of_multiples : (c e cells : ℕ → ℤ) (by : ℤ) (n : ℕ) → ((k : ℕ) → k < n → e k ≡ c k *ℤ by) → dot e cells n ≡ dot c cells n *ℤ by
unfolding dot
dot_of_multiples c e cells by zero h = sym (zero-*ℤ by)
dot_of_multiples c e cells by (suc n) h =
    let here : e n *ℤ cells n ≡ (c n *ℤ cells n) *ℤ by = ap (λ (x : ℤ). x *ℤ cells n) (h n (omega arith)) ∙ times_exchanged (c n) by (cells n) in
    let before : dot e cells n ≡ dot c cells n *ℤ by = dot_of_multiples c e cells by n (λ k l. h k (omega arith)) in
    let whole : (dot c cells n +ℤ c n *ℤ cells n) *ℤ by ≡ dot c cells n *ℤ by +ℤ (c n *ℤ cells n) *ℤ by = sum_times (dot c cells n) (c n *ℤ cells n) by in
    omega (arith, ints, here, before, whole)
