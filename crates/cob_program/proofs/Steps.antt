-- Each operation keeps within its bound.
use Rattle.std.proofs.Common.{◌≡◌, ℕ, ◌+◌, ◌-◌, ◌*◌, ◌^◌, ◌<◌, ◌≤◌, ◌==◌, ◌&&◌, ℤ, pos, negsuc, Bool, true, false, List, [], ◌∷◌, length, Option, Some, None, if◌then◌else◌, refl, ap, subst, ◌∙◌, arith}
use Rattle.std.specs.Prelude.{unsigned_abs, nat_le, unwrap_or, IfSome}
use Rattle.std.proofs.lemmas.Int.{ints}
use Rattle.std.proofs.lemmas.Nat.{mul-le}
use Rattle.std.proofs.lemmas.Bool.Decides.{nat_tests}
use Rattle.dec_num.specs.declared.types.Mode.TheVariants.{Trunc}
use Rattle.dec_num.specs.declared.types.Scaled.{Scaled}
use Rattle.dec_num.specs.Exact.{ratio_of, near}
use Rattle.dec_num.specs.Scaled.{units_at, joint_scale}
use Rattle.dec_num.proofs.Bounds.{size_of_sum, size_of_product, size_of_units_at}
use Rattle.dec_num.proofs.Near.{size_of_near, rounded_below}
use Rattle.dec_num.proofs.Powers.{ten-add}
use Rattle.cob_tree.specs.declared.token.Num.{Num}
use Rattle.cob_program.specs.Values.{whole_number, negated, plus, product, quotient_scale, quotient, digit_of, numeral, literal, with_factor, ◌>>=◌}
use Rattle.cob_program.specs.Bounds.{Bound, exactly, literal_bound, joint, raised, sum_bound, product_bound, quotient_bound, factor_bound, is_small, IsWithin, IsSmall}

-- ---- what may be missing

pub some_bound : {A B : Type 0} (x : Option A) (next : A → Option B) (b : B) → (x >>= next) ≡ Some b → (a : A) × (x ≡ Some a) × (next a ≡ Some b)
some_bound None next b e = absurd cc
some_bound (Some a) next b e = (a, refl, e)

pub if_some : {A : Type 0} (P : A → Type 0) (x : Option A) → ((a : A) → x ≡ Some a → P a) → IfSome x P
if_some P None h = tt
if_some P (Some a) h = h a refl

pub both : (a b : Bool) → (a && b) ≡ true → (a ≡ true) × (b ≡ true)
both true b e = (refl, e)
both false b e = absurd cc

-- ---- literals

digit_low : (c : ℕ) → digit_of c ≤ 9
digit_low c = omega arith

numeral_below : (n : ℕ) (digits : List ℕ) → numeral n digits < (n + 1) * 10 ^ length digits
numeral_below n [] = omega arith
numeral_below n (c ∷ cs) =
    let l : length (c ∷ cs) ≡ 1 + length cs = omega arith in
    let e : 10 ^ length (c ∷ cs) ≡ 10 ^ 1 * 10 ^ length cs = ap (λ k. 10 ^ k) l ∙ ten-add 1 (length cs) in
    let f : (n + 1) * 10 ^ length (c ∷ cs) ≡ 10 * (n + 1) * 10 ^ length cs = omega (arith, ap (λ k. (n + 1) * k) e) in
    let more = mul-le (10 * n + digit_of c + 1) (10 ^ length cs) (10 * (n + 1)) (10 ^ length cs) (omega (arith, digit_low c)) (omega arith) in
    omega (arith, f, more, numeral_below (10 * n + digit_of c) cs)

pub negated_within : (minus : Bool) (v : Scaled) (b : Bound) → IsWithin v b → IsWithin (negated minus v) b
negated_within false v b h = h
negated_within true v b h = record { most = omega (arith, ints, h.most); scale = h.scale }

pub literal_within : (n : Num) → IsWithin (literal n) (literal_bound n)
literal_within n = negated_within (n.sign == 45) (record { units = pos (numeral 0 n.digits); scale = n.scale }) (literal_bound n) (record {
  most = omega (arith, numeral_below 0 n.digits);
  scale = refl;
})

pub whole_within : (n : ℕ) → IsWithin (whole_number (pos n)) (exactly n)
whole_within n = record { most = omega arith; scale = refl }

-- ---- operations

raised_within : (v : Scaled) (b : Bound) (scale : ℕ) → IsWithin v b → unsigned_abs (units_at v scale) ≤ raised b scale
raised_within v b scale h = rw (← h.scale) (size_of_units_at v scale b.most h.most)

pub plus_within : (v w : Scaled) (a b : Bound) → IsWithin v a → IsWithin w b → IsWithin (plus v w) (sum_bound a b)
plus_within v w a b h k =
    let same : joint_scale v w ≡ joint a b = rw (h.scale, k.scale) refl in
    let left : unsigned_abs (units_at v (joint_scale v w)) ≤ raised a (joint a b) = subst (λ s. unsigned_abs (units_at v (joint_scale v w)) ≤ raised a s) same (raised_within v a (joint_scale v w) h) in
    let right : unsigned_abs (units_at w (joint_scale v w)) ≤ raised b (joint a b) = subst (λ s. unsigned_abs (units_at w (joint_scale v w)) ≤ raised b s) same (raised_within w b (joint_scale v w) k) in
    record {
      most = omega (arith, size_of_sum (units_at v (joint_scale v w)) (units_at w (joint_scale v w)), left, right);
      scale = same;
    }

pub product_within : (v w : Scaled) (a b : Bound) → IsWithin v a → IsWithin w b → IsWithin (product v w) (product_bound a b)
product_within v w a b h k = record { most = size_of_product v.units w.units a.most b.most h.most k.most; scale = rw (h.scale, k.scale) refl }

ratio_top : (n d : ℤ) → unsigned_abs (ratio_of n d).top ≡ unsigned_abs n
ratio_top n (pos d) = refl
ratio_top n (negsuc d) = omega (arith, ints)

ratio_bottom : (n d : ℤ) → (ratio_of n d).bottom ≡ unsigned_abs d
ratio_bottom n (pos d) = refl
ratio_bottom n (negsuc d) = refl

quotient_size : (n d : ℤ) (k most : ℕ) → 0 < unsigned_abs d → unsigned_abs n ≤ most → unsigned_abs (near Trunc (ratio_of n d) (pos k)) ≤ most * 10 ^ k
quotient_size n d k most positive h =
    let size = size_of_near Trunc (ratio_of n d) (pos k) in
    let below = rounded_below Trunc (unsigned_abs (ratio_of n d).top * 10 ^ k) (ratio_of n d).bottom (rw (ratio_bottom n d) positive) in
    let more = mul-le (unsigned_abs (ratio_of n d).top) (10 ^ k) most (10 ^ k) (rw (ratio_top n d) h) (omega arith) in
    omega (arith, size, below, more)

pub some_same : {A : Type 0} (a b : A) → Some a ≡ Some b → a ≡ b
some_same a b e = ap (λ o. unwrap_or o a) e

positive_of : (n : ℕ) → (n == 0) ≡ false → 0 < n
positive_of n e = grind (arith, nat_tests)

at_most_of : (a b : ℕ) → nat_le a b ≡ true → a ≤ b
at_most_of a b e = grind (arith, nat_tests)

pub quotient_within : (v w x : Scaled) (a b : Bound) → IsWithin v a → IsWithin w b → quotient v w ≡ Some x → IsWithin x (quotient_bound a b)
quotient_within v w x a b h k e = go (unsigned_abs w.units == 0) refl e
  where
    here : Scaled
    here = record {
      units = near Trunc (ratio_of v.units w.units) (pos (quotient_scale v.scale w.scale + w.scale - v.scale));
      scale = quotient_scale v.scale w.scale;
    }

    inside : 0 < unsigned_abs w.units → IsWithin here (quotient_bound a b)
    inside positive = record {
      most = rw (← h.scale, ← k.scale) (quotient_size v.units w.units (quotient_scale v.scale w.scale + w.scale - v.scale) a.most positive h.most);
      scale = rw (h.scale, k.scale) refl;
    }

    go : (zero_ : Bool) → (unsigned_abs w.units == 0) ≡ zero_ → (if zero_ then None else Some here) ≡ Some x → IsWithin x (quotient_bound a b)
    go true ez e0 = absurd cc
    go false ez e0 = subst (λ y. IsWithin y (quotient_bound a b)) (some_same here x e0) (inside (positive_of (unsigned_abs w.units) ez))

pub factor_within : (over : Bool) (v w x : Scaled) (a b : Bound) → IsWithin v a → IsWithin w b → with_factor over v w ≡ Some x → IsWithin x (factor_bound over a b)
factor_within false v w x a b h k e = subst (λ y. IsWithin y (product_bound a b)) (some_same (product v w) x e) (product_within v w a b h k)
factor_within true v w x a b h k e = quotient_within v w x a b h k e

pub small_of : (v : Scaled) (b : Bound) → IsWithin v b → is_small b ≡ true → IsSmall v
small_of v b h e =
    let l = both (nat_le b.most (10 ^ 37 - 1)) (nat_le b.scale 37) e in
    record { most = omega (arith, h.most, at_most_of b.most (10 ^ 37 - 1) l.0); scale = omega (arith, h.scale, at_most_of b.scale 37 l.1) }
