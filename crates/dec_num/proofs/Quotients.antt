-- What `quot` and what it calls give, by the parts that they work out.
use Rattle.std.proofs.Common.{◌≡◌, ℕ, suc, ◌*◌, ◌^◌, ◌<◌, ◌≤◌, ℤ, ◌<ℤ◌, ◌≤ℤ◌, pos, negsuc, neg_ℤ, refl, ap, ◌∙◌, sym, subst, to_z, of_z, Option, arith}
use Rattle.std.specs.Prelude.{unsigned_abs, ◌≢◌, SomeIff, FitsSigned, true, false}
use Rattle.std.proofs.lemmas.Int.{ints, to_z-of_z}
use mir.Syntax.{Width}
use Rattle.std.specs.Int.{w128}
use lib.Signed.{lt_z}
use Rattle.dec_num.specs.declared.types.Mode.{Mode}
use Rattle.dec_num.specs.Exact.{rounded, with_sign_of, near, near_size, ratio_of}
use Rattle.dec_num.proofs.Near.{size_of_near}

-- ---- numbers read from words
pub size_read : (w : Width) (z : ℤ) (size : ℕ) → FitsSigned w z → size ≡ unsigned_abs (to_z w (of_z w z)) → size ≡ unsigned_abs z
size_read w z size f e = e ∙ ap unsigned_abs (to_z-of_z w z f)

pub size_read_below : (w : Width) (z : ℤ) (size limit : ℕ) → FitsSigned w z → size ≡ unsigned_abs (to_z w (of_z w z)) → unsigned_abs z < limit → size < limit
size_read_below w z size limit f e h = rw (size_read w z size f e) h

pub zero_read : (z : ℤ) → FitsSigned w128 z → of_z w128 z ≡ 0 → z ≡ pos 0
zero_read z f e = omega (arith, ints)

pub nonzero_read : (w : Width) (z : ℤ) → of_z w z ≢ 0 → z ≢ pos 0
nonzero_read w z h = λ e. h (ap (of_z w) e)

pub size_positive : (z : ℤ) (size : ℕ) → size ≡ unsigned_abs z → z ≢ pos 0 → 0 < size
size_positive z size e h = omega (arith, ints)

below_zero : (z : ℤ) → lt_z z (pos 0) ≡ true → z <ℤ pos 0
below_zero z h = grind (arith, ints)

not_below_zero : (z : ℤ) → lt_z z (pos 0) ≡ false → pos 0 ≤ℤ z
not_below_zero z h = grind (arith, ints)

pub negative_read : (w : Width) (z : ℤ) → FitsSigned w z → lt_z (to_z w (of_z w z)) (pos 0) ≡ true → z <ℤ pos 0
negative_read w z f h = below_zero z (ap (λ (x : ℤ). lt_z x (pos 0)) (sym (to_z-of_z w z f)) ∙ h)

pub natural_read : (w : Width) (z : ℤ) → FitsSigned w z → lt_z (to_z w (of_z w z)) (pos 0) ≡ false → pos 0 ≤ℤ z
natural_read w z f h = not_below_zero z (ap (λ (x : ℤ). lt_z x (pos 0)) (sym (to_z-of_z w z f)) ∙ h)

pub down_within : (up : ℤ) (down : ℕ) → up <ℤ pos 0 → down ≡ unsigned_abs up → neg_ℤ (pos 37) ≤ℤ up → (1 ≤ down) × (down ≤ 37)
down_within up down h e k = (omega (arith, ints), omega (arith, ints))

pub up_within : (up : ℤ) (k : ℕ) → k ≡ unsigned_abs up → neg_ℤ (pos 37) ≤ℤ up → up ≤ℤ pos 55 → k ≤ 55
up_within up k e h l = omega (arith, ints)

-- ---- the size of a quotient
top_size : (n d : ℤ) → unsigned_abs (ratio_of n d).top ≡ unsigned_abs n
top_size n (pos d) = refl
top_size n (negsuc d) = omega (arith, ints)

bottom_size : (n d : ℤ) → (ratio_of n d).bottom ≡ unsigned_abs d
bottom_size n (pos d) = refl
bottom_size n (negsuc d) = refl

-- it is that of the sizes' quotient
of_sizes : (mode : Mode) (n d up : ℤ) → near_size mode (ratio_of (pos (unsigned_abs n)) (pos (unsigned_abs d))) up ≡ near_size mode (ratio_of n d) up
of_sizes mode n d (pos k) = rw (top_size n d, bottom_size n d) refl
of_sizes mode n d (negsuc k) = rw (top_size n d, bottom_size n d) refl

pub sizes_near : (mode : Mode) (n d up up' : ℤ) (top bottom : ℕ) → top ≡ unsigned_abs n → bottom ≡ unsigned_abs d → up' ≡ up → near_size mode (ratio_of (pos top) (pos bottom)) up' ≡ near_size mode (ratio_of n d) up
sizes_near mode n d up up' top bottom t b u = rw (t, b, u) (of_sizes mode n d up)

pub narrowed_size : (mode : Mode) (n d : ℕ) (up : ℤ) (down size : ℕ) → up <ℤ pos 0 → down ≡ unsigned_abs up → size ≡ rounded mode n (d * 10 ^ down) → size < 10 ^ 37 → (near_size mode (ratio_of (pos n) (pos d)) up < 10 ^ 37) × (size ≡ near_size mode (ratio_of (pos n) (pos d)) up)
narrowed_size mode n d (pos k) down size h e f below = absurd (omega (arith, ints))
narrowed_size mode n d (negsuc k) down size h e f below =
    let g : size ≡ rounded mode n (d * 10 ^ suc k) = f ∙ ap (λ (j : ℕ). rounded mode n (d * 10 ^ j)) e in (subst (λ (x : ℕ). x < 10 ^ 37) g below, g)

pub widened_size : (mode : Mode) (n d : ℕ) (up : ℤ) (k : ℕ) (found : Option ℕ) → pos 0 ≤ℤ up → k ≡ unsigned_abs up → SomeIff found (rounded mode (n * 10 ^ k) d < 10 ^ 37) (rounded mode (n * 10 ^ k) d) → SomeIff found (near_size mode (ratio_of (pos n) (pos d)) up < 10 ^ 37) (near_size mode (ratio_of (pos n) (pos d)) up)
widened_size mode n d (pos j) k found h e s = subst (λ (i : ℕ). SomeIff found (rounded mode (n * 10 ^ i) d < 10 ^ 37) (rounded mode (n * 10 ^ i) d)) e s
widened_size mode n d (negsuc j) k found h e s = absurd (omega (arith, ints))

-- ---- the quotient
pub near_below : (mode : Mode) (n d up z : ℤ) (size : ℕ) → z ≡ near mode (ratio_of n d) up → size ≡ near_size mode (ratio_of n d) up → size < 10 ^ 37 → unsigned_abs z < 10 ^ 37
near_below mode n d up z size e f h = rw (e, size_of_near mode (ratio_of n d) up, ← f) h

pub near_over : (mode : Mode) (n d up : ℤ) (size : ℕ) → size ≡ near_size mode (ratio_of n d) up → (size < 10 ^ 37 → ⊥) → 10 ^ 37 ≤ unsigned_abs (near mode (ratio_of n d) up)
near_over mode n d up size e h = rw (size_of_near mode (ratio_of n d) up, ← e) (at_least size (10 ^ 37) h)
  where
    at_least : (a b : ℕ) → (a < b → ⊥) → b ≤ a
    at_least a b h = omega (arith, h)

pub signed_near : (mode : Mode) (n d up n' d' top top' r r' : ℤ) (size : ℕ) → n' ≡ n → d' ≡ d → top ≡ (ratio_of n' d').top → top' ≡ top → r ≡ with_sign_of top' size → r' ≡ r → size ≡ near_size mode (ratio_of n d) up → r' ≡ near mode (ratio_of n d) up
signed_near mode n d up n' d' top top' r r' size en ed et et' er er' es = rw (er', er, et', et, en, ed, es) refl
