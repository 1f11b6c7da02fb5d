-- What a cut quotient leaves is less than the divisor.
use Rattle.std.proofs.Common.{◌≡◌, true, ℕ, zero, suc, ◌+◌, ◌-◌, ◌*◌, ◌/◌, ◌^◌, ◌<◌, ◌≤◌, max, ℤ, pos, negsuc, neg_ℤ, ◌+ℤ◌, ◌*ℤ◌, refl, sym, ap, ◌∙◌, subst, arith}
use Rattle.std.specs.Prelude.{unsigned_abs, ◌-ℤ◌, ◌≢◌}
use Rattle.std.proofs.lemmas.Int.{ints, unsigned_abs-mul}
use Rattle.std.proofs.lemmas.Nat.{mod_below, mul-le}
use Rattle.std.proofs.Math.Nat.{div-add-mod', mul_comm}
use Rattle.std.proofs.Math.IntN.{*ℤ_comm, *ℤ-negsuc, negsuc-*ℤ-negsuc}
use Rattle.dec_num.specs.declared.types.Mode.TheVariants.{Trunc}
use Rattle.dec_num.specs.declared.types.Scaled.{Scaled}
use Rattle.dec_num.specs.Exact.{near, ratio_of}
use Rattle.dec_num.proofs.Powers.{ten_positive}
use Rattle.dec_num.proofs.Signed.{neg_ℤ_times, times_times}
use Rattle.cob_program.specs.Values.{negated, plus, product}
use Rattle.dec_num.proofs.Shifting.{near_shift}

-- by sizes: the quotient of sizes n and d, with the signs put back
left_over : (n d q : ℕ) → q ≡ n / d → 0 < d → (d * q ≤ n) × (n - d * q < d)
left_over n d q e some = rw e (omega (arith, div-add-mod' n d, mod_below n d some), omega (arith, div-add-mod' n d, mod_below n d some))

times_pos : (d q : ℕ) → pos d *ℤ pos q ≡ pos (d * q)
times_pos d q = refl

times_neg : (d q : ℕ) → pos d *ℤ neg_ℤ (pos q) ≡ neg_ℤ (pos (d * q))
times_neg d q = *ℤ_comm (pos d) (neg_ℤ (pos q)) ∙ neg_ℤ_times (pos q) d ∙ ap (λ k. neg_ℤ (pos k)) (omega arith)

neg_times_pos : (d q : ℕ) → negsuc d *ℤ pos q ≡ neg_ℤ (pos (suc d * q))
neg_times_pos d q = neg_ℤ_times (pos (suc d)) q

neg_times_neg : (d q : ℕ) → negsuc d *ℤ neg_ℤ (pos q) ≡ pos (suc d * q)
neg_times_neg d zero = neg_times_pos d 0 ∙ omega (arith, ints)
neg_times_neg d (suc q) = negsuc-*ℤ-negsuc d q

cut_size : (n d : ℕ) → n * 10 ^ 0 / d ≡ n / d
cut_size n d = ap (λ k. k / d) (omega arith)

-- a dividend less divisor times cut quotient
pub less_than_divisor : (n d : ℤ) → d ≢ pos 0 → unsigned_abs (n -ℤ d *ℤ near Trunc (ratio_of n d) (pos 0)) < unsigned_abs d
less_than_divisor n (pos zero) h = absurd (h refl)
less_than_divisor (pos n) (pos (suc d)) h =
    let q = n * 10 ^ 0 / suc d in
    let l = left_over n (suc d) q (cut_size n (suc d)) (omega arith) in
    rw (times_pos (suc d) q) (omega (arith, ints, l.0, l.1))
less_than_divisor (negsuc n) (pos (suc d)) h =
    let q = suc n * 10 ^ 0 / suc d in
    let l = left_over (suc n) (suc d) q (cut_size (suc n) (suc d)) (omega arith) in
    rw (times_neg (suc d) q) (omega (arith, ints, l.0, l.1))
less_than_divisor (pos zero) (negsuc d) h = rw (neg_times_pos d (0 * 10 ^ 0 / suc d)) (omega (arith, ints))
less_than_divisor (pos (suc n)) (negsuc d) h =
    let q = suc n * 10 ^ 0 / suc d in
    let l = left_over (suc n) (suc d) q (cut_size (suc n) (suc d)) (omega arith) in
    rw (neg_times_neg d q) (omega (arith, ints, l.0, l.1))
less_than_divisor (negsuc n) (negsuc d) h =
    let q = suc n * 10 ^ 0 / suc d in
    let l = left_over (suc n) (suc d) q (cut_size (suc n) (suc d)) (omega arith) in
    rw (neg_times_pos d q) (omega (arith, ints, l.0, l.1))

-- ---- of decimals

swapped_pos : (d : ℤ) (c k : ℕ) → (d *ℤ pos c) *ℤ pos k ≡ (d *ℤ pos k) *ℤ pos c
swapped_pos d c k = times_times d c k ∙ ap (λ m. d *ℤ pos m) (mul_comm c k) ∙ sym (times_times d k c)

swapped : (d c : ℤ) (k : ℕ) → (d *ℤ c) *ℤ pos k ≡ (d *ℤ pos k) *ℤ c
swapped d (pos c) k = swapped_pos d c k
swapped d (negsuc c) k =
    ap (λ t. t *ℤ pos k) (*ℤ-negsuc d c) ∙ neg_ℤ_times (d *ℤ pos (suc c)) k ∙ ap neg_ℤ (swapped_pos d (suc c) k)
    ∙ sym (*ℤ-negsuc (d *ℤ pos k) c)

raised_nonzero : (d : ℤ) (k : ℕ) → 0 < k → d ≢ pos 0 → d *ℤ pos k ≢ pos 0
raised_nonzero d k some h e =
    h (omega (arith, ints, zero_size))
  where
    product_size : unsigned_abs d * k ≡ 0
    product_size = sym (unsigned_abs-mul d (pos k)) ∙ ap unsigned_abs e

    zero_size : unsigned_abs d ≡ 0
    zero_size = omega (arith, product_size, mul-le (unsigned_abs d) 1 (unsigned_abs d) k (omega arith) some)

-- at a scale that isn't below those of the dividend and of the product
left_at : (scale ns ds joint : ℕ) (n d c : ℤ) → ns ≤ joint → ds + scale ≤ joint → d ≢ pos 0 →
    c ≡ near Trunc (ratio_of (n *ℤ pos (10 ^ ds)) (d *ℤ pos (10 ^ ns))) (pos scale) →
    unsigned_abs (n *ℤ pos (10 ^ (joint - ns)) +ℤ neg_ℤ (d *ℤ c) *ℤ pos (10 ^ (joint - (ds + scale)))) < unsigned_abs d * 10 ^ (joint - (ds + scale))
left_at scale ns ds joint n d c h k some e =
    let i = joint - ns in
    let j = joint - (ds + scale) in
    let up : ℤ = pos (scale + ds) -ℤ pos ns in
    let same_up : up ≡ pos (0 + i) -ℤ pos j = omega (arith, ints, h, k) in
    let cut : c ≡ near Trunc (ratio_of (n *ℤ pos (10 ^ i)) (d *ℤ pos (10 ^ j))) (pos 0) =
    e ∙ near_shift Trunc n d scale ds ns up refl ∙ sym (near_shift Trunc n d 0 i j up same_up) in
    let less = less_than_divisor (n *ℤ pos (10 ^ i)) (d *ℤ pos (10 ^ j)) (raised_nonzero d (10 ^ j) (ten_positive j) some) in
    let less_by_cut : unsigned_abs (n *ℤ pos (10 ^ i) -ℤ (d *ℤ pos (10 ^ j)) *ℤ c) < unsigned_abs (d *ℤ pos (10 ^ j)) =
    subst (λ t. unsigned_abs (n *ℤ pos (10 ^ i) -ℤ (d *ℤ pos (10 ^ j)) *ℤ t) < unsigned_abs (d *ℤ pos (10 ^ j))) (sym cut) less in
    let back : neg_ℤ (d *ℤ c) *ℤ pos (10 ^ j) ≡ neg_ℤ ((d *ℤ pos (10 ^ j)) *ℤ c) = neg_ℤ_times (d *ℤ c) (10 ^ j) ∙ ap neg_ℤ (swapped d c (10 ^ j)) in
    rw back (omega (arith, ints, less_by_cut, unsigned_abs-mul d (pos (10 ^ j))))

pub rest_bounded : (scale : ℕ) (n d : Scaled) (c : ℤ) → d.units ≢ pos 0 → c ≡ near Trunc (ratio_of (n.units *ℤ pos (10 ^ d.scale)) (d.units *ℤ pos (10 ^ n.scale))) (pos scale) →
    unsigned_abs (plus n (negated true (product d (record { units = c; scale = scale })))).units < unsigned_abs d.units * 10 ^ (max n.scale (d.scale + scale) - (d.scale + scale))
rest_bounded scale n d c some e =
    left_at scale n.scale d.scale (max n.scale (d.scale + scale)) n.units d.units c (omega arith) (omega arith) some e
