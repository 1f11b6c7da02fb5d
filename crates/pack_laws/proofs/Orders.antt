-- A relation of two sums loses no values that it is true of.
use Rattle.std.proofs.Common.{◌≡◌, ℕ, suc, ◌+◌, ◌^◌, ◌≤◌, Bool, true, false, List, ℤ, pos, negsuc, neg_ℤ, ◌+ℤ◌, ◌*ℤ◌, ◌≤ℤ◌, ◌<ℤ◌, Option, Some, None, refl, sym, ap, subst, ◌∙◌, arith}
use Rattle.std.specs.Prelude.{IfSome}
use Rattle.std.proofs.lemmas.Int.{ints, by_lt_z}
use Rattle.std.proofs.lemmas.Bool.{false≢true}
use Rattle.std.proofs.Math.IntN.{negsuc-*ℤ-pos}
use Rattle.dec_num.specs.declared.types.Scaled.{Scaled}
use Rattle.dec_num.proofs.Powers.{ten_positive, ten_monotone}
use Rattle.interval_domain.specs.Corners.{interval}
use Rattle.interval_domain.proofs.IntervalEnds.{times_grows}
use Rattle.cob_program.specs.Values.{negated, ◌>>=◌}
use Rattle.diff_bounds.specs.declared.form.lin.Lin.{Lin}
use Rattle.diff_bounds.specs.Forms.{coef, dot}
use Rattle.diff_bounds.specs.Results.{scaled_constant, sum_of, multiple_of}
use Rattle.diff_bounds.proofs.Dots.{dot_of_multiples}
use Rattle.diff_bounds.specs.Matrix.{word}
use Rattle.diff_bounds.specs.Storages.{StandsIn}
use Rattle.diff_bounds.specs.Values.{worths, IsOver}
use Rattle.diff_bounds.specs.Demanded.{IsMet}
use Rattle.sum_ranges.specs.Ranged.{decimal}
use Rattle.diff_bounds.specs.Scales.{Spans}
use Rattle.diff_bounds.proofs.Scales.{times_cancel}
use Rattle.sum_forms.specs.Constants.{constant_form}
use Rattle.sum_forms.specs.SumForms.{turned_form}
use Rattle.sum_forms.proofs.Multiples.{spans_times}
use Rattle.sum_forms.proofs.Shows.{if_there}
use Rattle.sum_forms.proofs.Sound.{if_then}
use Rattle.diff_steps.specs.Guards.{demanded_if, strictly, at_most, ordered}
use Rattle.pack_laws.specs.Orders.{IsShown, IsLeft}
use Rattle.pack_laws.proofs.Kept.{demanded_stands, lesser_stands}
use Rattle.pack_laws.proofs.Stored.{dot_same, coef_widened, operands_of, coef_turned}
use Rattle.pack_laws.proofs.Signs.{not_above}

-- at most -1 in units of a scale that isn't below the value's own
below_one : (x u : ℤ) (s f : ℕ) → s ≤ f → u <ℤ pos 0 → (x *ℤ pos (10 ^ s)) ≤ℤ (u *ℤ pos (10 ^ f)) → x ≤ℤ negsuc 0
below_one x u s f h less le =
    let one : (u *ℤ pos (10 ^ f)) ≤ℤ (negsuc 0 *ℤ pos (10 ^ f)) = times_grows u (negsuc 0) (10 ^ f) (omega (arith, ints, less)) in
    let power = ten_monotone s f h in
    times_cancel x (negsuc 0) (10 ^ s) (ten_positive s) (omega (arith, ints, one, le, power, negsuc-*ℤ-pos 0 (10 ^ f), negsuc-*ℤ-pos 0 (10 ^ s)))

module _ (size : ℕ) (cells : ℕ → Option ℤ) (few : size ≤ 8) where
  -- a demand that the values meet
  record CanMeet (g : Lin) : Type 0 where
    over : IsOver size g
    met : IsMet size cells g

  meets : (g : Lin) (d : Scaled) (f : ℕ) → IsShown size cells g d f → d.units ≤ℤ pos 0 → CanMeet g
  meets g d f is h =
      let least = is.spans.least in
      record {
        over = is.over;
        met = record {
          operands = is.operands;
          holds = not_above d.units (dot (coef g) (λ k. worths cells (suc k)) 8 +ℤ g.constant.low) (10 ^ f) (10 ^ d.scale) (ten_positive d.scale) h least;
        };
      }

  meets_strictly : (g : Lin) (d : Scaled) (f : ℕ) → IsShown size cells g d f → d.scale ≤ f → d.units <ℤ pos 0 → CanMeet (sum_of g (constant_form (interval (pos 1) (pos 1))))
  meets_strictly g d f is fine h =
      let same = dot_same size cells (coef (sum_of g (constant_form (interval (pos 1) (pos 1))))) (coef g) (λ k. worths cells (suc k)) 8 (λ k l. coef_widened size cells g (interval (pos 1) (pos 1)) k l) in
      let least = below_one (dot (coef g) (λ k. worths cells (suc k)) 8 +ℤ g.constant.low) d.units d.scale f fine h is.spans.least in
      record {
        over = record { beyond = λ k l n. coef_widened size cells g (interval (pos 1) (pos 1)) k n ∙ is.over.beyond k l n };
        met = record {
          operands = operands_of size cells g (sum_of g (constant_form (interval (pos 1) (pos 1)))) (λ k l zero_. coef_widened size cells g (interval (pos 1) (pos 1)) k l ∙ zero_) few is.operands;
          holds = omega (arith, ints, same, least);
        };
      }

  -- ---- the other sign

  minus_one : (d : Scaled) → decimal (d.units *ℤ negsuc 0) (d.scale + 0) ≡ negated true d
  minus_one d =
      let e : d.scale + 0 ≡ d.scale = omega arith in
      let u : d.units *ℤ negsuc 0 ≡ neg_ℤ d.units = omega (arith, ints) in
      ap (λ (n : ℕ). decimal (d.units *ℤ negsuc 0) n) e ∙ ap (λ (x : ℤ). decimal x d.scale) u

  turned_shown : (g : Lin) (d : Scaled) (f : ℕ) → IsShown size cells g d f → IsShown size cells (multiple_of g (negsuc 0)) (negated true d) f
  turned_shown g d f is =
      let e = dot_of_multiples (coef g) (coef (multiple_of g (negsuc 0))) (λ k. worths cells (suc k)) (negsuc 0) 8 (coef_turned size cells g) in
      let whole = spans_times (dot (coef g) (λ k. worths cells (suc k)) 8) g.constant d.units d.scale f (negsuc 0) (negsuc 0) 0 refl is.spans in
      record {
        over = record { beyond = λ k l n. coef_turned size cells g k n ∙ ap (λ (x : ℤ). x *ℤ negsuc 0) (is.over.beyond k l n) };
        operands = operands_of size cells g (multiple_of g (negsuc 0)) (λ k l zero_. coef_turned size cells g k l ∙ ap (λ (x : ℤ). x *ℤ negsuc 0) zero_) few is.operands;
        spans = subst (λ (v : Scaled). Spans (dot (coef (multiple_of g (negsuc 0))) (λ k. worths cells (suc k)) 8) (scaled_constant g.constant (negsuc 0)) v f) (minus_one d)
            (subst (λ (s : ℤ). Spans s (scaled_constant g.constant (negsuc 0)) (decimal (d.units *ℤ negsuc 0) (d.scale + 0)) f) (sym e) whole);
      }

  turned_if_shown : (o : Option Lin) (d : Scaled) (f : ℕ) → IfSome o (λ g. IsShown size cells g d f) → IfSome (o >>= turned_form true) (λ g. IsShown size cells g (negated true d) f)
  turned_if_shown o d f h =
      if_then o (λ g. IsShown size cells g d f) (λ g. IsShown size cells g (negated true d) f) (turned_form true) h
      (λ g l. if_there (λ g. IsShown size cells g (negated true d) f) (multiple_of g (negsuc 0)) (turned_shown g d f l))

  -- ---- demands

  at_most_met : (fine even : Bool) (o : Option Lin) (d : Scaled) (f : ℕ) → IfSome o (λ g. IsShown size cells g d f) → (fine ≡ true → d.scale ≤ f) → d.units ≤ℤ pos 0 → (d.units ≡ pos 0 → even ≡ true) → IfSome (at_most fine even o) CanMeet
  at_most_met fine true o d f h k le zero_ = if_then o (λ g. IsShown size cells g d f) CanMeet (λ g. Some g) h (λ g l. meets g d f l le)
  at_most_met true false o d f h k le zero_ =
      if_then o (λ g. IsShown size cells g d f) CanMeet (strictly true) h
      (λ g l. if_there CanMeet (sum_of g (constant_form (interval (pos 1) (pos 1)))) (meets_strictly g d f l (k refl) (apart d.units le (λ e. false≢true (zero_ e)))))
    where
      apart : (u : ℤ) → u ≤ℤ pos 0 → (u ≡ pos 0 → ⊥) → u <ℤ pos 0
      apart u le ne = by_lt_z u (pos 0) (λ (lt : u <ℤ pos 0). lt) (λ (ge : pos 0 ≤ℤ u). absurd (ne (omega (arith, ints, le, ge))))
  at_most_met false false o d f h k le zero_ = if_then o (λ g. IsShown size cells g d f) CanMeet (strictly false) h (λ g l. meets g d f l le)

  module _ (m : List ℤ) (stands : StandsIn (size + 1) (word (size + 1) m) cells) where
    demand_stands : (o : Option Lin) → IfSome o CanMeet → StandsIn (size + 1) (word (size + 1) (demanded_if size o m)) cells
    demand_stands None h = stands
    demand_stands (Some g) h = demanded_stands size g m cells few h.over stands h.met

    not_over : (u : ℤ) → (pos 0 <ℤ u → false ≡ true) → u ≤ℤ pos 0
    not_over u h = by_lt_z (pos 0) u (λ (lt : pos 0 <ℤ u). absurd (false≢true (h lt))) (λ (le : u ≤ℤ pos 0). le)

    not_under : (u : ℤ) → (u <ℤ pos 0 → false ≡ true) → neg_ℤ u ≤ℤ pos 0
    not_under u h = by_lt_z u (pos 0) (λ (lt : u <ℤ pos 0). absurd (false≢true (h lt))) (λ (le : pos 0 ≤ℤ u). omega (arith, ints, le))

    pub ordered_stands : (fine : Bool) (o : Option Lin) (d : Scaled) (f : ℕ) (b e a : Bool) → IfSome o (λ g. IsShown size cells g d f) → (fine ≡ true → d.scale ≤ f) → IsLeft b e a d → StandsIn (size + 1) (word (size + 1) (ordered size fine o b e a m)) cells
    ordered_stands fine o d f true e false h k left = demand_stands (at_most fine e o) (at_most_met fine e o d f h k (not_over d.units left.above) left.even)
    ordered_stands fine o d f false e true h k left =
        demand_stands (at_most fine e (o >>= turned_form true)) (at_most_met fine e (o >>= turned_form true) (negated true d) f (turned_if_shown o d f h) k (not_under d.units left.below) (λ z. left.even (omega (arith, ints, z))))
    ordered_stands fine o d f false true false h k left =
        let le = not_over d.units left.above in
        let ge = not_under d.units left.below in
        lesser_stands size (demanded_if size o m) (demanded_if size (o >>= turned_form true) m) cells
        (demand_stands o (met_of o d h le)) (demand_stands (o >>= turned_form true) (met_of (o >>= turned_form true) (negated true d) (turned_if_shown o d f h) ge))
      where
        met_of : (p : Option Lin) (x : Scaled) → IfSome p (λ g. IsShown size cells g x f) → x.units ≤ℤ pos 0 → IfSome p CanMeet
        met_of None x h le = tt
        met_of (Some g) x h le = meets g x f h le
    ordered_stands fine o d f true e true h k left = stands
    ordered_stands fine o d f false false false h k left = stands
