-- What constants, cells and whole literals say.
use Rattle.std.proofs.Common.{◌≡◌, ℕ, zero, suc, ◌^◌, ◌<◌, Bool, true, false, ℤ, pos, ◌+ℤ◌, ◌*ℤ◌, ◌≤ℤ◌, Option, Some, None, inl, inr, refl, sym, ap, subst, ◌∙◌, arith}
use Rattle.std.specs.Prelude.{IfSome, nat_eq, int_le, if◌then◌else◌}
use Rattle.std.proofs.lemmas.Int.{ints}
use Rattle.std.proofs.lemmas.Bool.{cases_eq, eq-eqb, ne_eqb}
use Rattle.std.proofs.Math.IntN.{zero-*ℤ}
use Rattle.dec_num.specs.declared.types.Scaled.{Scaled}
use Rattle.dec_num.proofs.Powers.{ten_positive}
use Rattle.interval_domain.specs.declared.bounds.Interval.{Interval}
use Rattle.cob_program.specs.Sum.{Atom, item, number, group}
use Rattle.cob_program.specs.Values.{whole_number, negated, literal, atom_value}
use Rattle.cob_program.proofs.Steps.{some_same}
use Rattle.diff_bounds.specs.declared.form.lin.Lin.{Lin}
use Rattle.diff_bounds.specs.Forms.{coef, dot, if_small}
use Rattle.diff_bounds.proofs.Coefs.{coef-coefs_of}
use Rattle.sum_ranges.specs.declared.ranged.Ranged.{Ranged}
use Rattle.sum_ranges.specs.Ranged.{decimal, IsIn}
use Rattle.diff_bounds.specs.Scales.{Spans}
use Rattle.interval_domain.proofs.IntervalEnds.{times_grows}
use Rattle.sum_forms.specs.Constants.{outward, constant_form, range_form, cell_form, item_form}
use Rattle.sum_forms.specs.Literals.{whole_part, whole_of, whole_factor}
use Rattle.sum_forms.specs.Values.{Shows, AreHeld}
use Rattle.sum_forms.proofs.Floors.{floor_parts, floor_low, ceiling_high}

-- ---- a form that is there

there : (P : Lin → Type 0) (b : Bool) (f : Lin) → P f → IfSome (if b then Some f else None) P
there P true f h = h
there P false f h = tt

pub if_there : (P : Lin → Type 0) (f : Lin) → P f → IfSome (if_small f) P
unfolding if_small
if_there P f h = there P _ f h

-- ---- coefficients

dot_of_none : (c cells : ℕ → ℤ) (n : ℕ) → ((k : ℕ) → k < n → c k ≡ pos 0) → dot c cells n ≡ pos 0
unfolding dot
dot_of_none c cells zero h = refl
dot_of_none c cells (suc n) h =
    let here : c n *ℤ cells n ≡ pos 0 = ap (λ (x : ℤ). x *ℤ cells n) (h n (omega arith)) ∙ zero-*ℤ (cells n) in
    let before : dot c cells n ≡ pos 0 = dot_of_none c cells n (λ k l. h k (omega arith)) in
    omega (arith, ints, here, before)

one_times : (x : ℤ) → pos 1 *ℤ x ≡ x
one_times x = omega (arith, ints)

dot_of_one : (c cells : ℕ → ℤ) (at n : ℕ) → at < n → c at ≡ pos 1 → ((k : ℕ) → k < n → (k ≡ at → ⊥) → c k ≡ pos 0) → dot c cells n ≡ cells at
unfolding dot
dot_of_one c cells at zero h one others = absurd (omega arith)
dot_of_one c cells at (suc n) h one others = elim (cases_eq n at) as (λ _. dot c cells n +ℤ (c n *ℤ cells n) ≡ cells at) [
  | inl e ↦
      let here : c n *ℤ cells n ≡ cells at = ap (λ (k : ℕ). c k *ℤ cells k) e ∙ ap (λ (x : ℤ). x *ℤ cells at) one ∙ one_times (cells at) in
      let before : dot c cells n ≡ pos 0 = dot_of_none c cells n (λ k l. others k (omega arith) (λ f. omega arith)) in
      omega (arith, ints, here, before)
  | inr ne ↦
      let here : c n *ℤ cells n ≡ pos 0 = ap (λ (x : ℤ). x *ℤ cells n) (others n (omega arith) ne) ∙ zero-*ℤ (cells n) in
      let before : dot c cells n ≡ cells at = dot_of_one c cells at n (omega arith) one (λ k l. others k (omega arith)) in
      omega (arith, ints, here, before)
]

-- ---- constants

spans_constant : (s : ℤ) (i : Interval) (u : ℤ) (scale f : ℕ) → s ≡ pos 0 → (i.low *ℤ pos (10 ^ scale)) ≤ℤ (u *ℤ pos (10 ^ f)) → (u *ℤ pos (10 ^ f)) ≤ℤ (i.high *ℤ pos (10 ^ scale)) → Spans s i (decimal u scale) f
spans_constant s i u scale f none low high =
    let e : s +ℤ i.low ≡ i.low = omega (arith, ints, none) in
    let g : s +ℤ i.high ≡ i.high = omega (arith, ints, none) in
    record { least = rw e low; most = rw g high }

range_spans : (f : ℕ) (r : Ranged) (u : ℤ) (cells : ℕ → ℤ) → r.units.low ≤ℤ u → u ≤ℤ r.units.high → Shows f cells (constant_form (outward f r)) (decimal u r.scale)
range_spans f r u cells low high =
    spans_constant _ (outward f r) u r.scale f
    (dot_of_none (coef (constant_form (outward f r))) cells 8 (λ k h. coef-coefs_of (λ _. pos 0) k h))
    (let floor = floor_low f r.units.low r.scale in let more = times_grows r.units.low u (10 ^ f) low in omega (arith, ints, floor, more))
    (let ceiling = ceiling_high f r.units.high r.scale in let more = times_grows u r.units.high (10 ^ f) high in omega (arith, ints, ceiling, more))

-- 0 is the number of the constant 0
pub zero_shows : (f : ℕ) (cells : ℕ → ℤ) → Shows f cells (constant_form (record { low = pos 0; high = pos 0 })) (whole_number (pos 0))
zero_shows f cells =
    spans_constant _ (record { low = pos 0; high = pos 0 }) (pos 0) 0 f
    (dot_of_none (coef (constant_form (record { low = pos 0; high = pos 0 }))) cells 8 (λ k h. coef-coefs_of (λ _. pos 0) k h))
    (let a = zero-*ℤ (pos (10 ^ 0)) in let b = zero-*ℤ (pos (10 ^ f)) in omega (arith, ints, a, b))
    (let a = zero-*ℤ (pos (10 ^ 0)) in let b = zero-*ℤ (pos (10 ^ f)) in omega (arith, ints, a, b))

-- a number of the range is one of its form
pub range_shows : (f : ℕ) (r : Ranged) (v : Scaled) (cells : ℕ → ℤ) → IsIn v r → IfSome (range_form f r) (λ g. Shows f cells g v)
range_shows f r v cells is =
    if_there (λ g. Shows f cells g v) (constant_form (outward f r))
    (subst (λ (n : ℕ). Shows f cells (constant_form (outward f r)) (decimal v.units n)) (sym is.scale) (range_spans f r v.units cells is.held.0 is.held.1))

-- ---- cells

coef_of_cell : (k : ℕ) → k < 8 → coef (cell_form k) k ≡ pos 1
coef_of_cell k h = coef-coefs_of (λ j. if nat_eq j k then pos 1 else pos 0) k h ∙ rw (eq-eqb k k refl) refl

coef_of_other : (k j : ℕ) → j < 8 → (j ≡ k → ⊥) → coef (cell_form k) j ≡ pos 0
coef_of_other k j h ne = coef-coefs_of (λ i. if nat_eq i k then pos 1 else pos 0) j h ∙ rw (ne_eqb j k ne) refl

spans_value : (s x u : ℤ) (scale f : ℕ) → s ≡ x → x *ℤ pos (10 ^ scale) ≡ u *ℤ pos (10 ^ f) → Spans s (record { low = pos 0; high = pos 0 }) (decimal u scale) f
spans_value s x u scale f is e =
    let g : s +ℤ pos 0 ≡ x = omega (arith, ints, is) in
    record { least = rw g (omega (arith, ints, e)); most = rw g (omega (arith, ints, e)) }

cell_shows : (f k : ℕ) (v : Scaled) (cells : ℕ → ℤ) → k < 8 → cells k *ℤ pos (10 ^ v.scale) ≡ v.units *ℤ pos (10 ^ f) → Shows f cells (cell_form k) v
cell_shows f k v cells h e =
    spans_value _ (cells k) v.units v.scale f (dot_of_one (coef (cell_form k)) cells k 8 h (coef_of_cell k h) (λ j l ne. coef_of_other k j l ne)) e

-- an item's number is one of its form
pub item_shows : (f : ℕ) (cell : ℕ → Option ℕ) (range : ℕ → Ranged) (worth : ℕ → Scaled) (cells : ℕ → ℤ) → AreHeld f cell range worth cells → (place : ℕ) → IfSome (item_form f (cell place) (range place)) (λ g. Shows f cells g (worth place))
item_shows f cell range worth cells are place = by_cell (cell place) refl
  where
    by_cell : (o : Option ℕ) → cell place ≡ o → IfSome (item_form f o (range place)) (λ g. Shows f cells g (worth place))
    by_cell (Some k) e = cell_shows f k (worth place) cells (are.few place k e) (are.values place k e)
    by_cell None e = range_shows f (range place) (worth place) cells (are.held place)

-- ---- whole literals

pub whole_is : (v : Scaled) (k : ℤ) → whole_of v ≡ Some k → v.units ≡ k *ℤ pos (10 ^ v.scale)
whole_is v k e = by_test (int_le v.units (whole_part v *ℤ pos (10 ^ v.scale))) refl e
  where
    by_test : (b : Bool) → int_le v.units (whole_part v *ℤ pos (10 ^ v.scale)) ≡ b → (if b then Some (whole_part v) else None) ≡ Some k → v.units ≡ k *ℤ pos (10 ^ v.scale)
    by_test true t is =
        let same : whole_part v ≡ k = some_same (whole_part v) k is in
        let more : v.units ≤ℤ (whole_part v *ℤ pos (10 ^ v.scale)) = grind (arith, ints, t) in
        let less = (floor_parts v.units (10 ^ v.scale) (ten_positive v.scale)).0 in
        let even : v.units ≡ whole_part v *ℤ pos (10 ^ v.scale) = omega (arith, ints, more, less) in
        even ∙ ap (λ (x : ℤ). x *ℤ pos (10 ^ v.scale)) same
    by_test false t is = absurd cc

-- what a whole literal multiplies by
pub whole_factor_is : (worth : ℕ → Scaled) (over minus : Bool) (atom : Atom) (c : Scaled) (k : ℤ) → atom_value worth atom ≡ Some c → whole_factor over minus atom ≡ Some k → (over ≡ false) × ((negated minus c).units ≡ k *ℤ pos (10 ^ (negated minus c).scale))
whole_factor_is worth true minus atom c k e is = absurd cc
whole_factor_is worth false minus (item place) c k e is = absurd cc
whole_factor_is worth false minus (number n) c k e is =
    (refl, subst (λ (v : Scaled). (negated minus v).units ≡ k *ℤ pos (10 ^ (negated minus v).scale)) (some_same (literal n) c e) (whole_is (negated minus (literal n)) k is))
whole_factor_is worth false minus (group s) c k e is = absurd cc
