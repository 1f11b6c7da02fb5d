-- What is stored lies within the error of the exact value.
use Rattle.std.proofs.Common.{◌≡◌, ℕ, zero, suc, ◌+◌, ◌-◌, ◌*◌, ◌/◌, ◌^◌, ◌<◌, ◌≤◌, Bool, true, false, ◌⊎◌, inl, inr, ℤ, pos, negsuc, neg_ℤ, ◌-ℤ◌, ◌*ℤ◌, ◌≤ℤ◌, refl, sym, ap, ◌∙◌, arith}
use Rattle.std.specs.Prelude.{unsigned_abs}
use Rattle.std.proofs.lemmas.Int.{ints}
use Rattle.std.proofs.lemmas.Nat.{div-add-mod', mod_below, mul-le}
use Rattle.std.proofs.Math.IntN.{negsuc-*ℤ-pos}
use Rattle.std.proofs.Common.{pow-add, subst}
use Rattle.std.proofs.lemmas.Bool.{cases_Bool, or_cases, and_parts}
use Rattle.std.proofs.Common.{◌&&◌, ◌||◌}
use borrow.Author.Differences.{up, down}
use Rattle.dec_num.specs.declared.types.Mode.{Mode}
use Rattle.dec_num.specs.declared.types.Mode.TheVariants.{Trunc, Round}
use Rattle.dec_num.specs.declared.types.Scaled.{Scaled}
use Rattle.dec_num.specs.Exact.{rounded, with_sign_of}
use Rattle.dec_num.proofs.Near.{rounded_whole}
use Rattle.dec_num.proofs.Powers.{ten_positive}
use Rattle.interval_domain.specs.declared.bounds.Interval.{Interval}
use Rattle.interval_domain.specs.Corners.{interval}
use Rattle.diff_bounds.specs.declared.form.known.Known.{Known}
use Rattle.diff_bounds.specs.Errors.{one_sided, error_in, stored_units, AreSure, IsWithin}

-- ---- of natural numbers
pub cut_parts : (a b : ℕ) → 0 < b → (a / b * b ≤ a) × (a ≤ a / b * b + b)
cut_parts a b h = (omega (arith, div-add-mod' a b), omega (arith, div-add-mod' a b, mod_below a b h))

pub rounded_parts : (mode : Mode) (a b : ℕ) → 0 < b → (rounded mode a b * b ≤ a + b) × (a ≤ rounded mode a b * b + b)
rounded_parts Trunc a b h = (omega (arith, div-add-mod' a b), omega (arith, div-add-mod' a b, mod_below a b h))
rounded_parts Round a b h =
    let e = div-add-mod' (2 * a + b) (2 * b) in
    let f = mod_below (2 * a + b) (2 * b) (omega arith) in
    (omega (arith, e), omega (arith, e, f))

-- ---- of signed numbers
neg_times : (k n : ℕ) → neg_ℤ (pos k) *ℤ pos n ≡ neg_ℤ (pos (k * n))
neg_times zero n = let e : 0 * n ≡ 0 = omega arith in rw e refl
neg_times (suc k) n = negsuc-*ℤ-pos k n

pub parts_of_times : (x : ℤ) (n : ℕ) → up (x *ℤ pos n) + down x * n ≡ down (x *ℤ pos n) + up x * n
parts_of_times (pos a) n = omega (arith, ints)
parts_of_times (negsuc a) n = omega (arith, ints)

no_more : (p h z : ℤ) (b : ℕ) → (up p + down h) * b + down z ≤ up z + (down p + up h) * b → ((p -ℤ h) *ℤ pos b) ≤ℤ z
no_more p h z b less =
    let parts : up (p -ℤ h) + (down p + up h) ≡ down (p -ℤ h) + (up p + down h) = omega (arith, ints) in
    omega (arith, ints, less, parts_of_times (p -ℤ h) b, ap (λ n. n * b) parts)

no_less : (p l z : ℤ) (b : ℕ) → up z + (down p + up l) * b ≤ down z + (up p + down l) * b → z ≤ℤ ((p -ℤ l) *ℤ pos b)
no_less p l z b less =
    let parts : up (p -ℤ l) + (down p + up l) ≡ down (p -ℤ l) + (up p + down l) = omega (arith, ints) in
    omega (arith, ints, less, parts_of_times (p -ℤ l) b, ap (λ n. n * b) parts)

scaled_less : (q b a c u : ℕ) → q * b ≤ a + c → (q * u) * b ≤ a * u + c * u
scaled_less q b a c u h = omega (arith, mul-le (q * b) u (a + c) u h (omega arith))

scaled_more : (q b a c u : ℕ) → a ≤ q * b + c → a * u ≤ (q * u) * b + c * u
scaled_more q b a c u h = omega (arith, mul-le a u (q * b + c) u h (omega arith))

record Ends (e : Interval) (p z : ℤ) (b : ℕ) : Type 0 where
  least : ((p -ℤ e.high) *ℤ pos b) ≤ℤ z
  most : z ≤ℤ ((p -ℤ e.low) *ℤ pos b)

-- a positive value: it lies between what is stored and less than a unit more or less
above_zero : (q a b u : ℕ) → (d e : ℕ) → q * b ≤ a + d * b → a ≤ q * b + e * b → Ends (interval (neg_ℤ (pos (e * u))) (pos (d * u))) (pos (q * u)) (pos (a * u)) b
above_zero q a b u d e h k = record {
  least = no_more (pos (q * u)) (pos (d * u)) (pos (a * u)) b (omega (arith, scaled_less q b a (d * b) u h));
  most = no_less (pos (q * u)) (neg_ℤ (pos (e * u))) (pos (a * u)) b (let f : up (neg_ℤ (pos (e * u))) ≡ 0 = omega (arith, ints) in let g : down (neg_ℤ (pos (e * u))) ≡ e * u = omega (arith, ints) in omega (arith, scaled_more q b a (e * b) u k, ap (λ n. n * b) f, ap (λ n. n * b) g));
}

below_zero : (q a b u : ℕ) → (d e : ℕ) → q * b ≤ a + d * b → a ≤ q * b + e * b → Ends (interval (neg_ℤ (pos (d * u))) (pos (e * u))) (neg_ℤ (pos (q * u))) (neg_ℤ (pos (a * u))) b
below_zero q a b u d e h k = record {
  least = no_more (neg_ℤ (pos (q * u))) (pos (e * u)) (neg_ℤ (pos (a * u))) b (omega (arith, scaled_more q b a (e * b) u k, ap (λ n. n * b) (flat (q * u)), ap (λ n. n * b) (deep (q * u)), flat (a * u), deep (a * u)));
  most = no_less (neg_ℤ (pos (q * u))) (neg_ℤ (pos (d * u))) (neg_ℤ (pos (a * u))) b (omega (arith, scaled_less q b a (d * b) u h, ap (λ n. n * b) (flat (q * u)), ap (λ n. n * b) (deep (q * u)), flat (a * u), deep (a * u), ap (λ n. n * b) (flat (d * u)), ap (λ n. n * b) (deep (d * u))));
}
  where
    flat : (n : ℕ) → up (neg_ℤ (pos n)) ≡ 0
    flat n = omega (arith, ints)

    deep : (n : ℕ) → down (neg_ℤ (pos n)) ≡ n
    deep n = omega (arith, ints)

-- ---- with the units of the ends written out
plain_above : (q a b u : ℕ) (d e x y : ℕ) → d * u ≡ x → e * u ≡ y → q * b ≤ a + d * b → a ≤ q * b + e * b → Ends (interval (neg_ℤ (pos y)) (pos x)) (pos (q * u)) (pos (a * u)) b
plain_above q a b u d e x y f g h k = subst (λ (n : ℕ). Ends (interval (neg_ℤ (pos y)) (pos n)) (pos (q * u)) (pos (a * u)) b) f (subst (λ (n : ℕ). Ends (interval (neg_ℤ (pos n)) (pos (d * u))) (pos (q * u)) (pos (a * u)) b) g (above_zero q a b u d e h k))

plain_below : (q a b u : ℕ) (d e x y : ℕ) → d * u ≡ x → e * u ≡ y → q * b ≤ a + d * b → a ≤ q * b + e * b → Ends (interval (neg_ℤ (pos x)) (pos y)) (neg_ℤ (pos (q * u))) (neg_ℤ (pos (a * u))) b
plain_below q a b u d e x y f g h k = subst (λ (n : ℕ). Ends (interval (neg_ℤ (pos n)) (pos y)) (neg_ℤ (pos (q * u))) (neg_ℤ (pos (a * u))) b) f (subst (λ (n : ℕ). Ends (interval (neg_ℤ (pos (d * u))) (pos n)) (neg_ℤ (pos (q * u))) (neg_ℤ (pos (a * u))) b) g (below_zero q a b u d e h k))

-- ---- one value, stored

-- the stored number and the exact value, by the sign
signed_exact : (units : ℤ) (to more : ℕ) → units *ℤ pos (10 ^ (to + more)) ≡ with_sign_of units ((unsigned_abs units * 10 ^ to) * 10 ^ more)
signed_exact (pos n) to more = let e : 10 ^ (to + more) ≡ 10 ^ to * 10 ^ more = pow-add 10 to more in ap pos (omega (arith, ap (λ k. n * k) e))
signed_exact (negsuc n) to more = let e : 10 ^ (to + more) ≡ 10 ^ to * 10 ^ more = pow-add 10 to more in negsuc-*ℤ-pos n (10 ^ (to + more)) ∙ ap (λ k. neg_ℤ (pos k)) (omega (arith, ap (λ k. suc n * k) e))

signed_stored : (units : ℤ) (q u : ℕ) → with_sign_of units q *ℤ pos u ≡ with_sign_of units (q * u)
signed_stored (pos n) q u = refl
signed_stored (negsuc n) q u = neg_times q u

within_of : (e : Interval) (mode : Mode) (v : Scaled) (to more : ℕ) → Ends e (with_sign_of v.units (rounded mode (unsigned_abs v.units * 10 ^ to) (10 ^ v.scale) * 10 ^ more)) (with_sign_of v.units ((unsigned_abs v.units * 10 ^ to) * 10 ^ more)) (10 ^ v.scale) → IsWithin e (stored_units mode v to) v to more
within_of e mode v to more ends =
    let p = signed_stored v.units (rounded mode (unsigned_abs v.units * 10 ^ to) (10 ^ v.scale)) (10 ^ more) in
    let z = signed_exact v.units to more in
    let least = ends.least in let most = ends.most in
    record { least = rw (p, z) least; most = rw (p, z) most }

-- nothing is cut off
exact_ends : (units : ℤ) (q a b u : ℕ) → q * b ≡ a → Ends (interval (pos 0) (pos 0)) (with_sign_of units (q * u)) (with_sign_of units (a * u)) b
exact_ends (pos n) q a b u e = plain_above q a b u 0 0 0 0 (omega arith) (omega arith) (omega arith) (omega arith)
exact_ends (negsuc n) q a b u e = plain_below q a b u 0 0 0 0 (omega arith) (omega arith) (omega arith) (omega arith)

both_ends : (units : ℤ) (mode : Mode) (a b u : ℕ) → 0 < b → Ends (interval (neg_ℤ (pos u)) (pos u)) (with_sign_of units (rounded mode a b * u)) (with_sign_of units (a * u)) b
both_ends (pos n) mode a b u h = let r = rounded_parts mode a b h in plain_above (rounded mode a b) a b u 1 1 u u (omega arith) (omega arith) (omega (arith, r.0)) (omega (arith, r.1))
both_ends (negsuc n) mode a b u h = let r = rounded_parts mode a b h in plain_below (rounded mode a b) a b u 1 1 u u (omega arith) (omega arith) (omega (arith, r.0)) (omega (arith, r.1))

sided_ends : (units : ℤ) (mode : Mode) (up_ down_ : Bool) (to b u : ℕ) → 0 < b → (up_ ≡ true → pos 0 ≤ℤ units) → (down_ ≡ true → units ≤ℤ pos 0) → Ends (one_sided mode up_ down_ (pos u)) (with_sign_of units (rounded mode (unsigned_abs units * 10 ^ to) b * u)) (with_sign_of units ((unsigned_abs units * 10 ^ to) * u)) b
sided_ends (pos n) Trunc true down_ to b u h k l = let r = cut_parts (n * 10 ^ to) b h in plain_above (n * 10 ^ to / b) (n * 10 ^ to) b u 0 1 0 u (omega arith) (omega arith) (omega (arith, r.0)) (omega (arith, r.1))
sided_ends (negsuc n) Trunc true down_ to b u h k l = absurd (let j = k refl in omega (arith, ints, j))
sided_ends (pos n) Trunc false true to b u h k l =
    let r = cut_parts (n * 10 ^ to) b h in
    let j = l refl in
    let none_ : n ≡ 0 = omega (arith, ints, j) in
    let zero_size : n * 10 ^ to ≡ 0 = ap (λ m. m * 10 ^ to) none_ ∙ omega arith in
    plain_above (n * 10 ^ to / b) (n * 10 ^ to) b u 1 0 u 0 (omega arith) (omega arith) (omega (arith, r.0)) (omega (arith, zero_size))
sided_ends (negsuc n) Trunc false true to b u h k l = let r = cut_parts (suc n * 10 ^ to) b h in plain_below (suc n * 10 ^ to / b) (suc n * 10 ^ to) b u 0 1 0 u (omega arith) (omega arith) (omega (arith, r.0)) (omega (arith, r.1))
sided_ends units Trunc false false to b u h k l = both_ends units Trunc (unsigned_abs units * 10 ^ to) b u h
sided_ends units Round up_ down_ to b u h k l = both_ends units Round (unsigned_abs units * 10 ^ to) b u h

whole_size : (mode : Mode) (n to scale : ℕ) → scale ≤ to → rounded mode (n * 10 ^ to) (10 ^ scale) * 10 ^ scale ≡ n * 10 ^ to
whole_size mode n to scale h =
    let e : 10 ^ to ≡ 10 ^ scale * 10 ^ (to - scale) = (let f : to ≡ scale + (to - scale) = omega arith in ap (λ k. 10 ^ k) f ∙ pow-add 10 scale (to - scale)) in
    let g : n * 10 ^ to ≡ (n * 10 ^ (to - scale)) * 10 ^ scale = omega (arith, ap (λ k. n * k) e) in
    let q : rounded mode (n * 10 ^ to) (10 ^ scale) ≡ n * 10 ^ (to - scale) = ap (λ k. rounded mode k (10 ^ scale)) g ∙ rounded_whole mode (n * 10 ^ (to - scale)) (10 ^ scale) (ten_positive scale) in
    ap (λ k. k * 10 ^ scale) q ∙ sym g

zero_size : (mode : Mode) (n to b : ℕ) → 0 < b → n ≡ 0 → rounded mode (n * 10 ^ to) b * b ≡ n * 10 ^ to
zero_size mode n to b h e =
    let g : n * 10 ^ to ≡ 0 * b = ap (λ m. m * 10 ^ to) e ∙ omega arith in
    let q : rounded mode (n * 10 ^ to) b ≡ 0 = ap (λ k. rounded mode k b) g ∙ rounded_whole mode 0 b h in
    ap (λ k. k * b) q ∙ sym g

pub within : (mode : Mode) (k : Known) (v : Scaled) (to more : ℕ) → AreSure k v to → IsWithin (error_in k mode (pos (10 ^ more))) (stored_units mode v to) v to more
within mode k v to more sure =
    within_of (error_in k mode (pos (10 ^ more))) mode v to more (by_known (cases_Bool (k.whole || (k.not_negative && k.not_positive))))
  where
    size : (k.whole ≡ true) ⊎ ((k.not_negative && k.not_positive) ≡ true) → rounded mode (unsigned_abs v.units * 10 ^ to) (10 ^ v.scale) * 10 ^ v.scale ≡ unsigned_abs v.units * 10 ^ to
    size (inl whole) = whole_size mode (unsigned_abs v.units) to v.scale (sure.whole whole)
    size (inr both) =
        let p = and_parts k.not_negative k.not_positive both in
        let low = sure.not_negative p.0 in let high = sure.not_positive p.1 in
        zero_size mode (unsigned_abs v.units) to (10 ^ v.scale) (ten_positive v.scale) (omega (arith, ints, low, high))

    by_known : ((k.whole || (k.not_negative && k.not_positive)) ≡ true) ⊎ ((k.whole || (k.not_negative && k.not_positive)) ≡ false) → Ends (error_in k mode (pos (10 ^ more))) (with_sign_of v.units (rounded mode (unsigned_abs v.units * 10 ^ to) (10 ^ v.scale) * 10 ^ more)) (with_sign_of v.units ((unsigned_abs v.units * 10 ^ to) * 10 ^ more)) (10 ^ v.scale)
    by_known (inl e) = rw e (exact_ends v.units (rounded mode (unsigned_abs v.units * 10 ^ to) (10 ^ v.scale)) (unsigned_abs v.units * 10 ^ to) (10 ^ v.scale) (10 ^ more) (size (or_cases k.whole (k.not_negative && k.not_positive) e)))
    by_known (inr e) = rw e (sided_ends v.units mode k.not_negative k.not_positive to (10 ^ v.scale) (10 ^ more) (ten_positive v.scale) sure.not_negative sure.not_positive)
