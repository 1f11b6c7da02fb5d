-- What the code's numbers and forms are.
use Rattle.std.proofs.Common.{◌≡◌, ℕ, zero, suc, ◌+◌, ◌^◌, ◌<◌, ◌≤◌, true, false, ◌&&◌, List, get_or, [], ◌∷◌, set, length, ℤ, pos, neg_ℤ, ◌*ℤ◌, Some, None, refl, sym, ap, subst, ◌∙◌, arith}
use Rattle.std.specs.Prelude.{is_some, nat_eq, int_le, if◌then◌else◌, unsigned_abs}
use Rattle.std.specs.Int.{int_div_euclid}
use Rattle.std.proofs.lemmas.Int.{ints}
use Rattle.dec_num.proofs.Powers.{ten_positive, ten_monotone}
use Rattle.interval_domain.specs.declared.bounds.Interval.{Interval}
use Rattle.interval_domain.specs.Bounds.{IsSmall}
use Rattle.interval_domain.specs.Corners.{interval}
use Rattle.cob_program.specs.declared.sum.Factor as declared_factor
use Rattle.cob_program.specs.declared.sum.Factor.{out-Factor}
use Rattle.cob_program.specs.Sum.{more_factors}
use Rattle.cob_program.specs.SumView.{plain_atom}
use Rattle.diff_bounds.specs.declared.form.lin.Lin.{Lin}
use Rattle.diff_bounds.specs.Forms.{coefs_of, coef, AreSmallCoefs, IsSmallConstant, IsSmallForm}
use Rattle.diff_bounds.proofs.Coefs.{coef-coefs_of, length-coefs_of}
use Rattle.diff_bounds.proofs.Computed.{computed}
use Rattle.sum_ranges.specs.declared.ranged.Ranged.{Ranged}
use Rattle.sum_ranges.specs.Ranged.{decimal}
use Rattle.sum_ranges.specs.Sizes.{IsSmallRange}
use Rattle.cob_program.proofs.SumLoops.{factors_from, factor_is, factors_step}
use Rattle.sum_forms.specs.Constants.{floor_at, outward, constant_form, range_form, cell_form}
use Rattle.sum_forms.specs.Literals.{whole_part, whole_of, literal_in, are_literals}
use Rattle.sum_forms.specs.Values.{IsForm}
use Rattle.sum_forms.proofs.Floors.{floor_parts, floor_at_most_ceiling}

-- ---- lists of coefficients

abbrev pub nones : List ℤ
nones = pos 0 ∷ pos 0 ∷ pos 0 ∷ pos 0 ∷ pos 0 ∷ pos 0 ∷ pos 0 ∷ pos 0 ∷ []

pub none_coefs : nones ≡ coefs_of (λ k. pos 0)
unfolding coefs_of
none_coefs = refl

pub cell_coefs : (k : ℕ) → k < 8 → set nones k (pos 1) ≡ coefs_of (λ j. if nat_eq j k then pos 1 else pos 0)
unfolding coefs_of
cell_coefs zero h = refl
cell_coefs (suc zero) h = refl
cell_coefs (suc (suc zero)) h = refl
cell_coefs (suc (suc (suc zero))) h = refl
cell_coefs (suc (suc (suc (suc zero)))) h = refl
cell_coefs (suc (suc (suc (suc (suc zero))))) h = refl
cell_coefs (suc (suc (suc (suc (suc (suc zero)))))) h = refl
cell_coefs (suc (suc (suc (suc (suc (suc (suc zero))))))) h = refl
cell_coefs (suc (suc (suc (suc (suc (suc (suc (suc k)))))))) h = absurd (omega arith)

abbrev form : List ℤ → Interval → Lin
form xs i = record { coefs = xs; constant = i }

pub nothing_is : form nones (interval (pos 0) (pos 0)) ≡ constant_form (interval (pos 0) (pos 0))
nothing_is = ap (λ (xs : List ℤ). form xs (interval (pos 0) (pos 0))) none_coefs

pub cell_is : (k : ℕ) → k < 8 → form (set nones k (pos 1)) (interval (pos 0) (pos 0)) ≡ cell_form k
cell_is k h = ap (λ (xs : List ℤ). form xs (interval (pos 0) (pos 0))) (cell_coefs k h)

-- ---- ranges

neg_small : (z : ℤ) → IsSmall z → IsSmall (neg_ℤ z)
neg_small z h = omega (arith, ints, h)

-- with the numbers as they are passed on
pub outward_is : (d : ℕ) (r : Ranged) (l h low high x y : ℤ) → IsSmall (floor_at d (decimal l r.scale)) × (low ≡ floor_at d (decimal l r.scale)) → IsSmall (floor_at d (decimal h r.scale)) × (high ≡ floor_at d (decimal h r.scale)) → l ≡ r.units.low → h ≡ neg_ℤ r.units.high → x ≡ low → y ≡ neg_ℤ high → IsSmallConstant (outward d r) × (interval x y ≡ outward d r)
outward_is d r l h low high x y (small, is) (little, has) a e f g =
    let first : floor_at d (decimal l r.scale) ≡ floor_at d (decimal r.units.low r.scale) = ap (λ (z : ℤ). floor_at d (decimal z r.scale)) a in
    let last : floor_at d (decimal h r.scale) ≡ floor_at d (decimal (neg_ℤ r.units.high) r.scale) = ap (λ (z : ℤ). floor_at d (decimal z r.scale)) e in
    let interval_of : ℤ → ℤ → Interval = λ p q. interval p q in (
      record {
        low = subst (λ (z : ℤ). IsSmall z) first small;
        high = neg_small (floor_at d (decimal (neg_ℤ r.units.high) r.scale)) (subst (λ (z : ℤ). IsSmall z) last little);
      },
      ap (λ (p : ℤ). interval_of p y) (f ∙ is ∙ first) ∙ ap (λ (q : ℤ). interval_of (floor_at d (decimal r.units.low r.scale)) q) (g ∙ ap neg_ℤ (has ∙ last)),
    )

none_small : AreSmallCoefs (coef (constant_form (interval (pos 0) (pos 0))))
none_small = record { small = λ k h. subst (λ (z : ℤ). IsSmall z) (sym (coef-coefs_of (λ _. pos 0) k h)) (omega arith) }

small_constant : (i : Interval) → IsSmallConstant i → IsSmallForm (constant_form i)
small_constant i h = record { coefs = none_small; constant = h }

constant_is : (i j : Interval) → i ≡ j → form nones i ≡ constant_form j
constant_is i j e = ap (λ (xs : List ℤ). form xs i) none_coefs ∙ ap (λ (k : Interval). form (coefs_of (λ _. pos 0)) k) e

pub some_range : (d : ℕ) (r : Ranged) (i : Interval) → IsSmallConstant (outward d r) × (i ≡ outward d r) → Some (form nones i) ≡ range_form d r
some_range d r i (small, e) =
    computed (Some (form nones i)) (constant_form (outward d r)) (length-coefs_of (λ _. pos 0)) (small_constant (outward d r) small, constant_is i (outward d r) e)

pub no_range : (d : ℕ) (r : Ranged) → (IsSmallConstant (outward d r) → ⊥) → None ≡ range_form d r
no_range d r none = computed None (constant_form (outward d r)) (length-coefs_of (λ _. pos 0)) (λ is. none is.constant)

pub good_range : (d : ℕ) (r : Ranged) (i : Interval) → IsSmallRange r → IsSmallConstant (outward d r) × (i ≡ outward d r) → IsForm (form nones i)
good_range d r i is (small, e) =
    subst IsForm (sym (constant_is i (outward d r) e)) (record {
      small = small_constant (outward d r) small;
      ordered = floor_at_most_ceiling d r.units.low r.units.high r.scale is.units.ordered;
    })

-- ---- whole numbers

-- the whole part, in units of the scale, is small
pub part_fits : (units part : ℤ) (scale : ℕ) → IsSmall units → scale ≤ 37 → part ≡ int_div_euclid units (pos (10 ^ scale)) → unsigned_abs (part *ℤ pos (10 ^ scale)) < 10 ^ 38
part_fits units part scale small h e =
    let parts = floor_parts units (10 ^ scale) (ten_positive scale) in
    let less = parts.0 in let more = parts.1 in
    let power = ten_monotone scale 37 h in
    rw e (omega (arith, ints, small, less, more, power))

pub whole_there : (units z a b : ℤ) (scale : ℕ) → int_le a b ≡ true → z ≡ whole_part (decimal units scale) → a ≡ units → b ≡ z *ℤ pos (10 ^ scale) → Some z ≡ whole_of (decimal units scale)
whole_there units z a b scale t e f g =
    let test : int_le units (whole_part (decimal units scale) *ℤ pos (10 ^ scale)) ≡ true = subst (λ (y : ℤ). int_le units y ≡ true) (g ∙ ap (λ (x : ℤ). x *ℤ pos (10 ^ scale)) e) (subst (λ (x : ℤ). int_le x b ≡ true) f t) in
    rw test (ap Some e)

pub whole_missing : (units z a b : ℤ) (scale : ℕ) → int_le a b ≡ false → z ≡ whole_part (decimal units scale) → a ≡ units → b ≡ z *ℤ pos (10 ^ scale) → None ≡ whole_of (decimal units scale)
whole_missing units z a b scale t e f g =
    let test : int_le units (whole_part (decimal units scale) *ℤ pos (10 ^ scale)) ≡ false = subst (λ (y : ℤ). int_le units y ≡ false) (g ∙ ap (λ (x : ℤ). x *ℤ pos (10 ^ scale)) e) (subst (λ (x : ℤ). int_le x b ≡ false) f t) in
    rw test refl

-- ---- literals

pub literals_step : (xs : List declared_factor.Factor) (i : ℕ) (x : declared_factor.Factor) → i < length xs → x ≡ get_or xs i x → are_literals (factors_from xs i) ≡ (is_some (literal_in (plain_atom (out-Factor x).atom)) && are_literals (factors_from xs (i + 1)))
literals_step xs i x within is = ap are_literals (factors_step xs i x within is) ∙ ap (λ g. are_literals (more_factors g (factors_from xs (i + 1)))) (factor_is x)
