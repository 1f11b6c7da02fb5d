-- Items one behind the other lie apart in all their occurrences.
use Rattle.std.proofs.Common.{◌≡◌, ◌<◌, ◌≤◌, inl, inr, ℕ, suc, ◌+◌, ◌*◌, Bool, true, false, ap, refl, subst, ◌∙◌, arith}
use Rattle.std.specs.Prelude.{nat_le}
use Rattle.std.proofs.Math.Nat.{mul-le-mul_right}
use Rattle.std.proofs.lemmas.Bool.Decides.{nat_tests}
use Rattle.cob_data.specs.declared.extent.Extent.{Extent}
use Rattle.cob_data.specs.Extents.{start_of, AreApart, ColumnsLieApart, ColumnsLieInBlocks, BlocksLieApart}
use Rattle.cob_data.proofs.ExtentStarts.{start_is}

start_by : (e : Extent) (stride n : ℕ) → e.stride ≡ stride → start_of e n ≡ e.offset + n * stride
start_by e stride n far = start_is e n ∙ ap (λ (s : ℕ). e.offset + n * s) far

next : (k s : ℕ) → suc k * s ≡ k * s + s
next k s = omega arith

pub columns_lie_apart : ColumnsLieApart
columns_lie_apart times stride base middle to e d fits x y m n a b = go (nat_le m n) refl
  where
    go : (v : Bool) → nat_le m n ≡ v → AreApart (start_of e m) e.length (start_of d n) d.length
    go true f =
        let more : m * stride ≤ n * stride = mul-le-mul_right stride (grind (arith, nat_tests, f)) in
        let here = start_by e stride m x.as_far in
        let there = start_by d stride n y.as_far in
        inr (omega (arith, here, there, more, x.high, y.low))
    go false f =
        let more : suc n * stride ≤ m * stride = mul-le-mul_right stride (grind (arith, nat_tests, f)) in
        let one = next n stride in
        let here = start_by e stride m x.as_far in
        let there = start_by d stride n y.as_far in
        inl (omega (arith, here, there, more, one, y.high, x.low, fits))

pub columns_lie_in_blocks : ColumnsLieInBlocks
columns_lie_in_blocks times stride from e x n less =
    let here = start_by e stride n x.as_far in
    let more : suc n * stride ≤ times * stride = mul-le-mul_right stride (subst (λ (k : ℕ). n < k) x.as_many less) in
    let one = next n stride in
    (omega (arith, here, x.low), omega (arith, here, more, one, x.high))

pub blocks_lie_apart : BlocksLieApart
blocks_lie_apart from middle to e d x y m n a b =
    let high = (x m a).1 in
    let low = (y n b).0 in
    inr (omega (arith, high, low))
