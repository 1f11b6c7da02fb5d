-- Where occurrences start, and that they lie apart and within storage.
use Rattle.std.proofs.Common.{◌≡◌, ◌<◌, ◌≤◌, ◌⊎◌, inl, inr, ℕ, zero, suc, ◌+◌, ◌*◌, Bool, true, false, ◌||◌, refl, ap, ◌∙◌, arith}
use Rattle.std.proofs.Math.Nat.{mul-le-mul_right}
use Rattle.std.proofs.lemmas.Nat.{mul-le}
use Rattle.cob_data.specs.declared.extent.Extent.{Extent}
use Rattle.cob_data.specs.Extents.{start_of, any_below, StridesSetApart, TablesLieWithin}

-- ---- starts

pub start_is : (e : Extent) (n : ℕ) → start_of e n ≡ e.offset + n * e.stride
start_is e zero = omega arith
start_is e (suc n) =
    let before = start_is e n in
    let one : suc n * e.stride ≡ n * e.stride + e.stride = next n e.stride in
    omega (arith, before, one)
  where
    next : (k s : ℕ) → suc k * s ≡ k * s + s
    next k s = omega arith

pub start_fits : (offset number stride : ℕ) → offset < 4294967296 → number < 4294967296 → stride < 4294967296
    → offset + number * stride ≤ 18446744069414584320
start_fits offset number stride a b c =
    let most : number * stride ≤ 4294967295 * 4294967295 = mul-le number stride 4294967295 4294967295 (omega (arith, b)) (omega (arith, c)) in
    omega (arith, most, a)

pub start_rises : (e : Extent) (m n : ℕ) → m ≤ n → start_of e m ≤ start_of e n
start_rises e m n l =
    let more : m * e.stride ≤ n * e.stride = mul-le-mul_right e.stride l in
    let here = start_is e m in
    let there = start_is e n in
    omega (arith, more, here, there)

-- ---- numbers below a count

pub last_or_before : (k n : ℕ) → k < suc n → (k < n) ⊎ (k ≡ n)
last_or_before zero zero h = inr refl
last_or_before zero (suc n) h = inl (omega arith)
last_or_before (suc k) zero h = absurd (omega (arith, h))
last_or_before (suc k) (suc n) h = behind (last_or_before k n (omega (arith, h)))
  where
    behind : (k < n) ⊎ (k ≡ n) → (suc k < suc n) ⊎ (suc k ≡ suc n)
    behind (inl l) = inl (omega (arith, l))
    behind (inr e) = inr (ap suc e)

pub none_below : (n : ℕ) (test : ℕ → Bool) → any_below n test ≡ false → (k : ℕ) → k < n → test k ≡ false
none_below zero test e k h = absurd (omega (arith, h))
none_below (suc n) test e k h =
    go (any_below n test) (test n) refl refl e (last_or_before k n h) (λ f l. none_below n test f k l)
  where
    go : (u v : Bool) → any_below n test ≡ u → test n ≡ v → (u || v) ≡ false → (k < n) ⊎ (k ≡ n)
        → (any_below n test ≡ false → k < n → test k ≡ false) → test k ≡ false
    go true v f g both which earlier = absurd cc
    go false true f g both which earlier = absurd cc
    go false false f g both (inl l) earlier = earlier f l
    go false false f g both (inr same) earlier = ap test same ∙ g

-- ---- apart

pub strides_set_apart : StridesSetApart
strides_set_apart e some wide = record {
  some = some;
  apart = λ m n less many. behind m n less (wide (omega (arith, less, many)));
}
  where
    behind : (m n : ℕ) → m < n → e.length ≤ e.stride → start_of e m + e.length ≤ start_of e n
    behind m n less fits =
        let later = start_rises e (suc m) n (omega (arith, less)) in
        omega (arith, later, fits)

pub tables_lie_within : TablesLieWithin
tables_lie_within e taken bytes all long fits n less =
    let more : suc n * e.stride ≤ e.times * e.stride = mul-le-mul_right e.stride (omega (arith, less)) in
    let one : suc n * e.stride ≡ n * e.stride + e.stride = next n e.stride in
    let here = start_is e n in
    omega (arith, more, one, here, long, all, fits)
  where
    next : (k s : ℕ) → suc k * s ≡ k * s + s
    next k s = omega arith
