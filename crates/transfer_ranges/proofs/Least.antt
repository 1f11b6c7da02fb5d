-- What searches leave, as sets of decimals.
use Rattle.std.proofs.Common.{◌≡◌, ℕ, ℤ, ◌≤ℤ◌, Bool, true, false, Option, Some, None, refl, subst, arith}
use Rattle.std.specs.Prelude.{int_le, if◌then◌else◌, IsSomeAnd, IfSome, option_map}
use Rattle.std.specs.Int.{int_max, int_min}
use Rattle.std.proofs.lemmas.Int.{ints, clamps}
use Rattle.dec_num.specs.declared.types.Scaled.{Scaled}
use Rattle.interval_domain.specs.declared.bounds.Interval.{Interval}
use Rattle.interval_domain.specs.Bounds.{Holds}
use Rattle.interval_domain.specs.Corners.{interval}
use Rattle.cob_program.specs.Values.{◌>>=◌}
use Rattle.sum_ranges.specs.declared.ranged.Ranged.{Ranged}
use Rattle.sum_ranges.specs.Ranged.{decimal, ranged, IsIn, IsNarrower, IsBelow}
use Rattle.sum_ranges.specs.Results.{IsRangeOf}
use Rattle.sum_ranges.proofs.Least.{in_wider}
use Rattle.transfer_ranges.specs.Kept.{some_in, kept_in, between, met, IsLeastIfAny, IsPartOf, UnitsBelow}
use Rattle.transfer_ranges.proofs.Searches.{Passes, kept_is, met_of_number, number_of_met}

-- ---- some number of a range

-- a number of the range, at the range's own scale
pub at_own_scale : (P : Scaled → Type 0) (x : Scaled) (a : Ranged) → IsIn x a → P x → P (decimal x.units a.scale)
at_own_scale P x a h p = subst (λ s. P (decimal x.units s)) h.scale p

pub in_range : (z : ℤ) (a : Ranged) → Holds a.units z → IsIn (decimal z a.scale) a
in_range z a h = record { held = h; scale = refl }

pub some_of : (test : Scaled → Bool) (a : Ranged) (x : Scaled) → IsIn x a → test x ≡ true → some_in test a ≡ true
some_of test a x h t = met_of_number (λ z. test (decimal z a.scale)) a.units x.units h.held (at_own_scale (λ y. test y ≡ true) x a h t)

pub one_of_some : (test : Scaled → Bool) (a : Ranged) → some_in test a ≡ true → (x : Scaled) × IsIn x a × (test x ≡ true)
one_of_some test a e =
    let found = number_of_met (λ z. test (decimal z a.scale)) a.units e in
    (decimal found.0 a.scale, in_range found.0 a found.1, found.2)

pub some_rises : (test more : Scaled → Bool) (a b : Ranged) → IsNarrower a b → ((x : Scaled) → IsIn x a → test x ≡ true → more x ≡ true) → some_in test a ≡ true → some_in more b ≡ true
some_rises test more a b n h e =
    let found = one_of_some test a e in
    some_of more b found.0 (in_wider found.0 a b n found.1) (h found.0 found.1 found.2)

-- ---- what is kept of a range

pub kept_least : (test : Scaled → Bool) (a : Ranged) → IsLeastIfAny (Passes (λ z. test (decimal z a.scale)) a.units) (kept_in test a)
kept_least test a = kept_is (λ z. test (decimal z a.scale)) a.units

-- a range that the search leaves
abbrev pub kept_range : (Scaled → Bool) → Ranged → Option Ranged
kept_range test a = option_map (λ i. ranged i a.scale) (kept_in test a)

pub kept_is_range : (R : Scaled → Type 0) (test : Scaled → Bool) (a : Ranged) → ((x : Scaled) → R x → IsIn x a × (test x ≡ true)) → ((x : Scaled) → IsIn x a → test x ≡ true → R x) → IsRangeOf R (kept_range test a)
kept_is_range R test a to from = go (kept_in test a) (kept_least test a)
  where
    passes : (x : Scaled) → R x → Passes (λ z. test (decimal z a.scale)) a.units x.units
    passes x r = let p = to x r in (p.0.held, at_own_scale (λ y. test y ≡ true) x a p.0 p.1)

    back : (z : ℤ) → Passes (λ z. test (decimal z a.scale)) a.units z → R (decimal z a.scale)
    back z p = from (decimal z a.scale) (in_range z a p.0) p.1

    go : (o : Option Interval) → IsLeastIfAny (Passes (λ z. test (decimal z a.scale)) a.units) o → IsRangeOf R (option_map (λ i. ranged i a.scale) o)
    go None h = λ x r. h x.units (passes x r)
    go (Some i) h = record {
      scale = λ x r. (to x r).0.scale;
      least = record {
        holds = λ z r. h.holds z (passes (decimal z a.scale) r);
        low_is_one = back i.low h.low_is_one;
        high_is_one = back i.high h.high_is_one;
      };
    }

pub kept_holds : (test : Scaled → Bool) (a : Ranged) (x : Scaled) → IsIn x a → test x ≡ true → IsSomeAnd (kept_in test a) (λ i. Holds i x.units)
kept_holds test a x h t = go (kept_in test a) (kept_least test a)
  where
    passes : Passes (λ z. test (decimal z a.scale)) a.units x.units
    passes = (h.held, at_own_scale (λ y. test y ≡ true) x a h t)

    go : (o : Option Interval) → IsLeastIfAny (Passes (λ z. test (decimal z a.scale)) a.units) o → IsSomeAnd o (λ i. Holds i x.units)
    go None k = k x.units passes
    go (Some i) k = k.holds x.units passes

pub kept_part : (test : Scaled → Bool) (a : Ranged) → IfSome (kept_in test a) (λ i. IsPartOf i a.units)
kept_part test a = go (kept_in test a) (kept_least test a)
  where
    go : (o : Option Interval) → IsLeastIfAny (Passes (λ z. test (decimal z a.scale)) a.units) o → IfSome o (λ i. IsPartOf i a.units)
    go None k = tt
    go (Some i) k = record { low = k.low_is_one.0.0; ordered = (k.holds i.low k.low_is_one).1; high = k.high_is_one.0.1 }

-- ---- one after the other

pub and_then : {A B : Type 0} (P : A → Type 0) (Q : B → Type 0) (o : Option A) (next : A → Option B) → IsSomeAnd o P → ((a : A) → P a → IsSomeAnd (next a) Q) → IsSomeAnd (o >>= next) Q
and_then P Q None next h k = h
and_then P Q (Some a) next h k = k a h

pub if_then : {A B : Type 0} (P : A → Type 0) (Q : B → Type 0) (o : Option A) (next : A → Option B) → IfSome o P → ((a : A) → P a → IfSome (next a) Q) → IfSome (o >>= next) Q
if_then P Q None next h k = tt
if_then P Q (Some a) next h k = k a h

pub units_below : (o p : Option Interval) (s t : ℕ) → IsBelow (option_map (λ i. ranged i s) o) (option_map (λ i. ranged i t) p) → UnitsBelow o p
units_below None p s t h = tt
units_below (Some i) None s t h = h
units_below (Some i) (Some j) s t h = (h.low, h.high)

-- ---- the numbers of two intervals

pub le_test : (x y : ℤ) → x ≤ℤ y → int_le x y ≡ true
le_test x y h = grind (arith, ints)

pub test_le : (x y : ℤ) → int_le x y ≡ true → x ≤ℤ y
test_le x y e = grind (arith, ints)

pub between_holds : (l h z : ℤ) → l ≤ℤ z → z ≤ℤ h → IsSomeAnd (between l h) (λ i. Holds i z)
between_holds l h z a b = go (int_le l h) (le_test l h (omega (arith, ints, a, b)))
  where
    go : (t : Bool) → t ≡ true → IsSomeAnd (if t then Some (interval l h) else None) (λ i. Holds i z)
    go true e = (a, b)
    go false e = absurd cc

pub met_holds : (a b : Interval) (z : ℤ) → Holds a z → Holds b z → IsSomeAnd (met a b) (λ i. Holds i z)
met_holds a b z h k = between_holds (int_max a.low b.low) (int_min a.high b.high) z (omega (arith, ints, clamps, h.0, k.0)) (omega (arith, ints, clamps, h.1, k.1))

pub between_part : (l h : ℤ) (whole : Interval) → whole.low ≤ℤ l → h ≤ℤ whole.high → IfSome (between l h) (λ i. IsPartOf i whole)
between_part l h whole a b = go (int_le l h) refl
  where
    go : (t : Bool) → int_le l h ≡ t → IfSome (if t then Some (interval l h) else None) (λ i. IsPartOf i whole)
    go true e = record { low = a; ordered = test_le l h e; high = b }
    go false e = tt

pub met_part : (a b whole : Interval) → IsPartOf a whole → IfSome (met a b) (λ i. IsPartOf i whole)
met_part a b whole h = between_part (int_max a.low b.low) (int_min a.high b.high) whole (omega (arith, ints, clamps, h.low)) (omega (arith, ints, clamps, h.high))

between_below : (l h m k : ℤ) → m ≤ℤ l → h ≤ℤ k → UnitsBelow (between l h) (between m k)
between_below l h m k a b = go (int_le l h) (int_le m k) refl refl
  where
    clash : int_le l h ≡ true → int_le m k ≡ false → ⊥
    clash e f = absurd (other (le_test m k (omega (arith, ints, a, b, test_le l h e))))
      where
        other : int_le m k ≡ true → ⊥
        other g = absurd cc

    go : (t u : Bool) → int_le l h ≡ t → int_le m k ≡ u → UnitsBelow (if t then Some (interval l h) else None) (if u then Some (interval m k) else None)
    go false u e f = tt
    go true true e f = (a, b)
    go true false e f = clash e f

pub met_below : (a b c d : Interval) → (c.low ≤ℤ a.low) × (a.high ≤ℤ c.high) → (d.low ≤ℤ b.low) × (b.high ≤ℤ d.high) → UnitsBelow (met a b) (met c d)
met_below a b c d h k =
    between_below (int_max a.low b.low) (int_min a.high b.high) (int_max c.low d.low) (int_min c.high d.high)
    (omega (arith, ints, clamps, h.0, k.0)) (omega (arith, ints, clamps, h.1, k.1))
