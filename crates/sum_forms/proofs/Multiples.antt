-- Bounds of a value times a whole number.
use Rattle.std.proofs.Common.{◌≡◌, ℕ, ◌+◌, ◌*◌, ◌^◌, ℤ, pos, negsuc, ◌+ℤ◌, ◌*ℤ◌, ◌≤ℤ◌, sym, ap, ◌∙◌, pow-add, arith}
use Rattle.std.proofs.lemmas.Int.{ints, clamps}
use Rattle.std.proofs.Math.IntN.{*ℤ_comm}
use Rattle.dec_num.proofs.Signed.{times_times}
use Rattle.interval_domain.specs.declared.bounds.Interval.{Interval}
use Rattle.interval_domain.proofs.IntervalEnds.{times_grows, times_falls}
use Rattle.diff_bounds.specs.Results.{scaled_constant}
use Rattle.diff_bounds.proofs.Dots.{sum_times, times_exchanged}
use Rattle.diff_bounds.specs.Scales.{Spans}

-- u times the factor k * q, in units of another scale
factor_out : (u k : ℤ) (q t : ℕ) → (u *ℤ (k *ℤ pos q)) *ℤ pos t ≡ ((u *ℤ pos t) *ℤ k) *ℤ pos q
factor_out u k q t =
    let first : u *ℤ (k *ℤ pos q) ≡ (u *ℤ k) *ℤ pos q = *ℤ_comm u (k *ℤ pos q) ∙ times_exchanged k (pos q) u ∙ ap (λ (z : ℤ). z *ℤ pos q) (*ℤ_comm k u) in
    ap (λ (z : ℤ). z *ℤ pos t) first ∙ times_exchanged (u *ℤ k) (pos q) (pos t) ∙ ap (λ (z : ℤ). z *ℤ pos q) (times_exchanged u k (pos t))

-- an end times the factor, at the scale of both
end_out : (z k : ℤ) (p q : ℕ) → (z *ℤ k) *ℤ pos (p * q) ≡ ((z *ℤ pos p) *ℤ k) *ℤ pos q
end_out z k p q = sym (times_times (z *ℤ k) p q) ∙ ap (λ (x : ℤ). x *ℤ pos q) (times_exchanged z k (pos p))

-- a new end that is at most an old one times the factor
least_end : (s c d k u : ℤ) (p q t : ℕ) → d ≤ℤ (c *ℤ k) → (((s +ℤ c) *ℤ pos p) *ℤ k) ≤ℤ ((u *ℤ pos t) *ℤ k) → ((s *ℤ k +ℤ d) *ℤ pos (p * q)) ≤ℤ ((u *ℤ (k *ℤ pos q)) *ℤ pos t)
least_end s c d k u p q t less bound =
    let whole : (s *ℤ k +ℤ d) ≤ℤ ((s +ℤ c) *ℤ k) = (let e = sum_times s c k in omega (arith, ints, e, less)) in
    let first = times_grows (s *ℤ k +ℤ d) ((s +ℤ c) *ℤ k) (p * q) whole in
    let last = times_grows _ _ q bound in
    omega (arith, ints, first, last, end_out (s +ℤ c) k p q, factor_out u k q t)

most_end : (s c d k u : ℤ) (p q t : ℕ) → (c *ℤ k) ≤ℤ d → ((u *ℤ pos t) *ℤ k) ≤ℤ (((s +ℤ c) *ℤ pos p) *ℤ k) → ((u *ℤ (k *ℤ pos q)) *ℤ pos t) ≤ℤ ((s *ℤ k +ℤ d) *ℤ pos (p * q))
most_end s c d k u p q t more bound =
    let whole : ((s +ℤ c) *ℤ k) ≤ℤ (s *ℤ k +ℤ d) = (let e = sum_times s c k in omega (arith, ints, e, more)) in
    let first = times_grows ((s +ℤ c) *ℤ k) (s *ℤ k +ℤ d) (p * q) whole in
    let last = times_grows _ _ q bound in
    omega (arith, ints, first, last, end_out (s +ℤ c) k p q, factor_out u k q t)

least_times : (s : ℤ) (i : Interval) (u : ℤ) (p q t : ℕ) (k : ℤ) → ((s +ℤ i.low) *ℤ pos p) ≤ℤ (u *ℤ pos t) → (u *ℤ pos t) ≤ℤ ((s +ℤ i.high) *ℤ pos p) → ((s *ℤ k +ℤ (scaled_constant i k).low) *ℤ pos (p * q)) ≤ℤ ((u *ℤ (k *ℤ pos q)) *ℤ pos t)
least_times s i u p q t (pos n) low high = least_end s i.low _ (pos n) u p q t (omega (arith, ints, clamps)) (times_grows _ _ n low)
least_times s i u p q t (negsuc n) low high = least_end s i.high _ (negsuc n) u p q t (omega (arith, ints, clamps)) (times_falls _ _ n high)

most_times : (s : ℤ) (i : Interval) (u : ℤ) (p q t : ℕ) (k : ℤ) → ((s +ℤ i.low) *ℤ pos p) ≤ℤ (u *ℤ pos t) → (u *ℤ pos t) ≤ℤ ((s +ℤ i.high) *ℤ pos p) → ((u *ℤ (k *ℤ pos q)) *ℤ pos t) ≤ℤ ((s *ℤ k +ℤ (scaled_constant i k).high) *ℤ pos (p * q))
most_times s i u p q t (pos n) low high = most_end s i.high _ (pos n) u p q t (omega (arith, ints, clamps)) (times_grows _ _ n high)
most_times s i u p q t (negsuc n) low high = most_end s i.low _ (negsuc n) u p q t (omega (arith, ints, clamps)) (times_falls _ _ n low)

-- a sum times a factor spans the value times that factor, of whatever scale it is
pub spans_times : (s : ℤ) (i : Interval) (u : ℤ) (scale f : ℕ) (k w : ℤ) (e : ℕ) → w ≡ k *ℤ pos (10 ^ e) → Spans s i (record { units = u; scale = scale }) f → Spans (s *ℤ k) (scaled_constant i k) (record { units = u *ℤ w; scale = scale + e }) f
spans_times s i u scale f k w e is spans =
    let power : 10 ^ (scale + e) ≡ 10 ^ scale * 10 ^ e = pow-add 10 scale e in
    let low = spans.least in let high = spans.most in
    record {
      least = rw (power, is) (least_times s i u (10 ^ scale) (10 ^ e) (10 ^ f) k low high);
      most = rw (power, is) (most_times s i u (10 ^ scale) (10 ^ e) (10 ^ f) k low high);
    }
