use Rattle.std.proofs.Common.{◌≡◌, ℕ, ◌<◌, ◌≤◌, ◌^◌, refl, ◌∙◌, to_z, of_z, arith}
use Rattle.std.specs.Int.{w32, w128}
use Rattle.std.proofs.lemmas.Int.{to_z-of_z}
use Rattle.dec_num.specs.Exact.{near, ratio_of, near_size}
use Rattle.dec_num.proofs.Near.{nearest_ratio}
use Rattle.dec_num.proofs.Quotients.{size_read, size_read_below, zero_read, nonzero_read, size_positive, sizes_near, near_below, near_over, signed_near}
use Rattle.dec_num.proofs.quotient.quot.Goals as goal

-- ---- a divisor that is 0
pub returns-then-d-eq0-clause-zero_divisor : goal.returns-then-d-eq0-clause-zero_divisor
returns-then-d-eq0-clause-zero_divisor c = (λ _. zero_read c.args.d c.ranges.d c.if-d-eq0.true, λ _. refl)

pub returns-then-d-eq0-clause-over : goal.returns-then-d-eq0-clause-over
returns-then-d-eq0-clause-over c = (λ e. absurd (cc), λ over. absurd (over.0 (zero_read c.args.d c.ranges.d c.if-d-eq0.true)))

-- ---- what the calls ask
pub quotient_size-requires-clause-n : goal.quotient_size-requires-clause-n
quotient_size-requires-clause-n c = size_read_below w128 c.args.n _ _ c.ranges.n c.unsigned_abs-top.ensures.value c.requires.n

pub quotient_size-requires-clause-d : goal.quotient_size-requires-clause-d
quotient_size-requires-clause-d c =
    let d = c.args.d in (
      size_positive d _ (size_read w128 d _ c.ranges.d c.unsigned_abs-bottom.ensures.value) (nonzero_read w128 d c.if-d-eq0.false),
      size_read_below w128 d _ _ c.ranges.d c.unsigned_abs-bottom.ensures.value c.requires.d,
    )

pub ratio_top-requires : goal.ratio_top-requires
ratio_top-requires c = rw (to_z-of_z w128 c.args.n c.ranges.n) c.requires.n

-- ---- a quotient
pub returns-in-Some-clause-zero_divisor : goal.returns-in-Some-clause-zero_divisor
returns-in-Some-clause-zero_divisor c = (λ e. absurd (cc), λ e. absurd (nonzero_read w128 c.args.d c.if-d-eq0.false e))

pub signed-requires : goal.signed-requires
signed-requires c = omega (arith, c.in-Some.ensures)

-- the size is that of the quotient, and the result with its sign is the quotient
size_is : (c : goal.After-signed) → c.in-Some.size ≡ near_size c.args.mode (ratio_of c.args.n c.args.d) c.args.up
size_is c =
    let n = c.args.n in
    let d = c.args.d in
    let up = c.args.up in
    c.in-Some.ensures.1
    ∙ sizes_near c.args.mode n d up _ _ _ (size_read w128 n _ c.ranges.n c.unsigned_abs-top.ensures.value) (size_read w128 d _ c.ranges.d c.unsigned_abs-bottom.ensures.value) (to_z-of_z w32 up c.ranges.up)

quotient_is : (c : goal.After-signed) → to_z w128 (of_z w128 c.signed.result) ≡ near c.args.mode (ratio_of c.args.n c.args.d) c.args.up
quotient_is c =
    signed_near c.args.mode c.args.n c.args.d c.args.up _ _ _ _ _ _ _ (to_z-of_z w128 c.args.n c.ranges.n) (to_z-of_z w128 c.args.d c.ranges.d)
    c.ratio_top.ensures.value (to_z-of_z w128 c.ratio_top.result (record { sfits = c.ratio_top.type_inv }))
    c.signed.ensures.value (to_z-of_z w128 c.signed.result (record { sfits = c.signed.type_inv })) (size_is c)

size_below : (c : goal.After-signed) → c.in-Some.size < 10 ^ 37
size_below c = rw c.in-Some.ensures.1 c.in-Some.ensures.0

pub returns-in-Some-clause-over : goal.returns-in-Some-clause-over
returns-in-Some-clause-over c =
    let below = near_below c.args.mode c.args.n c.args.d c.args.up _ _ refl (size_is c) (size_below c) in
    (λ e. absurd (cc), λ over. absurd (not_both _ _ below over.1))
  where
    not_both : (a b : ℕ) → a < b → b ≤ a → ⊥
    not_both a b h k = omega arith

pub returns-in-Some-clause-is : goal.returns-in-Some-clause-is
returns-in-Some-clause-is c = (nonzero_read w128 c.args.d c.if-d-eq0.false, quotient_is c, near_below c.args.mode c.args.n c.args.d c.args.up _ _ (quotient_is c) (size_is c) (size_below c))

pub returns-in-Some-clause-nearest : goal.returns-in-Some-clause-nearest
returns-in-Some-clause-nearest c = nearest_ratio c.args.mode c.args.n c.args.d c.args.up _ (nonzero_read w128 c.args.d c.if-d-eq0.false) (quotient_is c)

-- ---- one with too many digits
pub returns-in-None-clause-zero_divisor : goal.returns-in-None-clause-zero_divisor
returns-in-None-clause-zero_divisor c = (λ e. absurd (cc), λ e. absurd (nonzero_read w128 c.args.d c.if-d-eq0.false e))

pub returns-in-None-clause-over : goal.returns-in-None-clause-over
returns-in-None-clause-over c =
    let n = c.args.n in
    let d = c.args.d in
    let up = c.args.up in
    let size = sizes_near c.args.mode n d up _ _ _ (size_read w128 n _ c.ranges.n c.unsigned_abs-top.ensures.value) (size_read w128 d _ c.ranges.d c.unsigned_abs-bottom.ensures.value) (to_z-of_z w32 up c.ranges.up) in
    (λ _. (nonzero_read w128 d c.if-d-eq0.false, near_over c.args.mode n d up _ size c.in-None.ensures), λ _. refl)
