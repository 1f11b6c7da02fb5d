-- What is no table's has one occurrence: what holds of this holds of all.
use Rattle.std.proofs.Common.{◌≡◌, ◌≤◌, ℕ, zero, suc, ◌+◌, arith}
use Rattle.cob_data.specs.declared.extent.Extent.{Extent}
use Rattle.cob_data.specs.Extents.{AreApart, LieApart, IsExtent, LiesWithin}

pub one_within : (e : Extent) (bytes : ℕ) → e.times ≡ 1 → e.offset + e.length ≤ bytes → LiesWithin e bytes
one_within e bytes one within zero less = within
one_within e bytes one within (suc n) less = absurd (omega (arith, less, one))

pub one_extent : (e : Extent) → e.times ≡ 1 → IsExtent e
one_extent e one = record {
  some = omega (arith, one);
  apart = λ m n less many. absurd (omega (arith, less, many, one));
}

pub one_apart : (a b : Extent) → a.times ≡ 1 → b.times ≡ 1 → AreApart a.offset a.length b.offset b.length → LieApart a b
one_apart a b one once apart zero zero l k = apart
one_apart a b one once apart (suc m) n l k = absurd (omega (arith, l, one))
one_apart a b one once apart zero (suc n) l k = absurd (omega (arith, k, once))
