-- The first occurrence that ends behind a range's start meets it, if any does.
use Rattle.std.proofs.Common.{◌≡◌, ◌<◌, ◌≤◌, ◌⊎◌, inl, inr, ℕ, zero, suc, ◌+◌, ◌*◌, Bool, true, false, not, ◌||◌, refl, sym, ap, ◌∙◌, arith}
use Rattle.std.specs.Prelude.{nat_le, ◌-◌, ◌/◌}
use Rattle.std.proofs.Math.Nat.{mul-le-mul_right, lt-div-mul-add, div-mul-le_self}
use Rattle.std.proofs.lemmas.Bool.Decides.{nat_tests}
use Rattle.cob_data.specs.declared.extent.Extent.{Extent}
use Rattle.cob_data.specs.Extents.{start_of, any_below, share_bytes, AreApart, meets_range, share_extents, LieApart}
use Rattle.cob_data.proofs.ExtentStarts.{start_is, start_rises, none_below}

pub some_below : (n : ℕ) (test : ℕ → Bool) → any_below n test ≡ true → (k : ℕ) × (k < n) × (test k ≡ true)
some_below zero test e = absurd cc
some_below (suc n) test e = go (any_below n test) (test n) refl refl e (λ f. some_below n test f)
  where
    go : (u v : Bool) → any_below n test ≡ u → test n ≡ v → (u || v) ≡ true → (any_below n test ≡ true → (k : ℕ) × (k < n) × (test k ≡ true)) → (k : ℕ) × (k < suc n) × (test k ≡ true)
    go true v f g both earlier = one_more (earlier f)
      where
        one_more : (k : ℕ) × (k < n) × (test k ≡ true) → (k : ℕ) × (k < suc n) × (test k ≡ true)
        one_more (k, l, h) = (k, omega (arith, l), h)
    go false true f g both earlier = (n, omega arith, g)
    go false false f g both earlier = absurd cc

pub any_is : (n : ℕ) (test : ℕ → Bool) (k : ℕ) → k < n → test k ≡ true → any_below n test ≡ true
any_is n test k less h = go (any_below n test) refl
  where
    go : (b : Bool) → any_below n test ≡ b → any_below n test ≡ true
    go true e = e
    go false e = absurd (differ (none_below n test e k less))
      where
        differ : test k ≡ false → ⊥
        differ f = cc

pub any_isnt : (n : ℕ) (test : ℕ → Bool) → ((k : ℕ) → k < n → test k ≡ true → ⊥) → any_below n test ≡ false
any_isnt n test none = go (any_below n test) refl
  where
    go : (b : Bool) → any_below n test ≡ b → any_below n test ≡ false
    go false e = e
    go true e = found (some_below n test e)
      where
        found : (k : ℕ) × (k < n) × (test k ≡ true) → any_below n test ≡ false
        found (k, l, h) = absurd (none k l h)

pub share_is : (offset count from many : ℕ) → share_bytes offset count from many ≡ true → (offset < from + many) × (from < offset + count)
share_is offset count from many e = go (nat_le (from + many) offset) (nat_le (offset + count) from) refl refl e
  where
    go : (u v : Bool) → nat_le (from + many) offset ≡ u → nat_le (offset + count) from ≡ v → not (u || v) ≡ true → (offset < from + many) × (from < offset + count)
    go true v f g h = absurd cc
    go false true f g h = absurd cc
    go false false f g h = (grind (arith, nat_tests, f), grind (arith, nat_tests, g))

pub share_for : (offset count from many : ℕ) → offset < from + many → from < offset + count → share_bytes offset count from many ≡ true
share_for offset count from many a b = go (nat_le (from + many) offset) (nat_le (offset + count) from) refl refl
  where
    go : (u v : Bool) → nat_le (from + many) offset ≡ u → nat_le (offset + count) from ≡ v → not (u || v) ≡ true
    go true v f g = absurd (no f)
      where
        no : nat_le (from + many) offset ≡ true → ⊥
        no f = grind (arith, nat_tests, f, a)
    go false true f g = absurd (no g)
      where
        no : nat_le (offset + count) from ≡ true → ⊥
        no g = grind (arith, nat_tests, g, b)
    go false false f g = refl

module _ (e : Extent) (offset count first : ℕ) (before : (n : ℕ) → n < first → start_of e n + e.length ≤ offset)
    (there : (offset < start_of e first + e.length) ⊎ ((e.stride ≡ 0) × (first ≡ 0))) where
  abbrev test : ℕ → Bool
  test n = share_bytes offset count (start_of e n) e.length

  not_before : (k : ℕ) → test k ≡ true → first ≤ k
  not_before k h = go (nat_le first k) refl
    where
      shared : (offset < start_of e k + e.length) × (start_of e k < offset + count)
      shared = share_is offset count (start_of e k) e.length h

      go : (b : Bool) → nat_le first k ≡ b → first ≤ k
      go true f = grind (arith, nat_tests, f)
      go false f =
          let less : k < first = grind (arith, nat_tests, f) in
          let ends = before k less in
          absurd (omega (arith, ends, shared.0))

  first_too : (k : ℕ) → test k ≡ true → test first ≡ true
  first_too k h = go there
    where
      shared : (offset < start_of e k + e.length) × (start_of e k < offset + count)
      shared = share_is offset count (start_of e k) e.length h

      go : (offset < start_of e first + e.length) ⊎ ((e.stride ≡ 0) × (first ≡ 0)) → test first ≡ true
      go (inl l) =
          let no_later = start_rises e first k (not_before k h) in
          share_for offset count (start_of e first) e.length l (omega (arith, no_later, shared.1))
      go (inr (flat, none)) = ap (λ n. share_bytes offset count n e.length) (start_flat first ∙ sym (start_flat k)) ∙ h
        where
          start_flat : (n : ℕ) → start_of e n ≡ e.offset
          start_flat n = start_is e n ∙ (ap (λ s. e.offset + n * s) flat ∙ omega arith)

  -- none but those from the first on, and it is one of them
  pub none_meets : e.times ≤ first → meets_range e offset count ≡ false
  none_meets l = any_isnt e.times test (λ k less h. no k less (not_before k h))
    where
      no : (k : ℕ) → k < e.times → first ≤ k → ⊥
      no k a b = omega (arith, a, b, l)

  pub first_meets : first < e.times → meets_range e offset count ≡ test first
  first_meets l = go (test first) refl
    where
      go : (b : Bool) → test first ≡ b → meets_range e offset count ≡ b
      go true f = any_is e.times test first l f
      go false f = any_isnt e.times test (λ k less h. no (first_too k h))
        where
          no : test first ≡ true → ⊥
          no g = cc

-- ---- the number of the first

pub so_many_before : (e : Extent) (offset : ℕ) → e.offset + e.length ≤ offset → 0 < e.stride → (n : ℕ)
    → n < (offset - (e.offset + e.length)) / e.stride + 1 → start_of e n + e.length ≤ offset
so_many_before e offset ends wide n less =
    let more : n * e.stride ≤ (offset - (e.offset + e.length)) / e.stride * e.stride = mul-le-mul_right e.stride (omega (arith, less)) in
    let cut : (offset - (e.offset + e.length)) / e.stride * e.stride ≤ offset - (e.offset + e.length) = div-mul-le_self (offset - (e.offset + e.length)) e.stride in
    let here = start_is e n in
    omega (arith, more, cut, ends, here)

pub next_is_behind : (e : Extent) (offset : ℕ) → e.offset + e.length ≤ offset → 0 < e.stride
    → offset < start_of e ((offset - (e.offset + e.length)) / e.stride + 1) + e.length
next_is_behind e offset ends wide =
    let more = lt-div-mul-add {a = offset - (e.offset + e.length)} {b = e.stride} wide in
    let one : ((offset - (e.offset + e.length)) / e.stride + 1) * e.stride ≡ (offset - (e.offset + e.length)) / e.stride * e.stride + e.stride = next ((offset - (e.offset + e.length)) / e.stride) e.stride in
    let here = start_is e ((offset - (e.offset + e.length)) / e.stride + 1) in
    omega (arith, more, one, ends, here)
  where
    next : (n s : ℕ) → (n + 1) * s ≡ n * s + s
    next n s = omega arith

-- ---- none in common

pub apart_for : (offset count from many : ℕ) → share_bytes offset count from many ≡ false → AreApart offset count from many
apart_for offset count from many e = go (nat_le (from + many) offset) (nat_le (offset + count) from) refl refl e
  where
    go : (u v : Bool) → nat_le (from + many) offset ≡ u → nat_le (offset + count) from ≡ v → not (u || v) ≡ false
        → AreApart offset count from many
    go true v f g h = inl (grind (arith, nat_tests, f))
    go false true f g h = inr (grind (arith, nat_tests, g))
    go false false f g h = absurd cc

pub lie_apart : (a b : Extent) → share_extents a b ≡ false → LieApart a b
lie_apart a b e m n l k =
    apart_for (start_of a m) a.length (start_of b n) b.length
    (none_below b.times (λ j. share_bytes (start_of a m) a.length (start_of b j) b.length)
    (none_below a.times (λ i. meets_range b (start_of a i) a.length) e m l) n k)
