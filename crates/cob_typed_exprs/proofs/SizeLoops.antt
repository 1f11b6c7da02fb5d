-- Steps of the loops over the parts of a sum, with bounds that are small.
use Rattle.std.proofs.Common.{◌≡◌, ℕ, ◌+◌, ◌<◌, Bool, List, length, get_or, Some, None, refl, sym, ap, ◌∙◌}
use Rattle.cob_program.specs.declared.sum.Factor as declared_factor
use Rattle.cob_program.specs.declared.sum.Factor.{out-Factor}
use Rattle.cob_program.specs.Sum.{Parts, more_parts, Part, Factors, more_factors, MkFactor, Atom}
use Rattle.cob_program.specs.SumView.{plain_atom}
use Rattle.cob_program.specs.Bounds.{Bound, sum_bound, factor_bound, is_small, atom_most, part_most, is_small_atom, is_small_part}
use Rattle.cob_program.proofs.SumLoops as loops
use Rattle.cob_program.proofs.SumLoops.{factors_from, factor_is}
use Rattle.cob_typed_exprs.specs.Sizes.{if_small, small_atom, small_part, small_product, small_sum_from}
use Rattle.cob_typed_exprs.proofs.SizeLemmas.{some_if, none_if}

pub factors_step : (xs : List declared_factor.Factor) (i : ℕ) (x : declared_factor.Factor) → i < length xs → x ≡ get_or xs i x →
    factors_from xs i ≡ more_factors (MkFactor (out-Factor x).over (out-Factor x).minus (plain_atom (out-Factor x).atom)) (factors_from xs (i + 1))
factors_step xs i x within is = loops.factors_step xs i x within is ∙ ap (λ f. more_factors f (factors_from xs (i + 1))) (factor_is x)

module _ (bound : ℕ → Bound) where
  pub product_none : (a : Bound) (o m : Bool) (x : Atom) (fs : Factors) → None ≡ small_atom bound x → None ≡ small_product bound a (more_factors (MkFactor o m x) fs)
  product_none a o m x fs none = rw (none_if (is_small_atom bound x) (atom_most bound x) (sym none)) refl

  pub product_over : (a by : Bound) (o m : Bool) (x : Atom) (fs : Factors) → Some by ≡ small_atom bound x → None ≡ if_small (factor_bound o a by) → None ≡ small_product bound a (more_factors (MkFactor o m x) fs)
  product_over a by o m x fs some none =
      let l = some_if (is_small_atom bound x) (atom_most bound x) by (sym some) in
      let n = none_if (is_small (factor_bound o a by)) (factor_bound o a by) (sym none) in
      rw (l.0, l.1, n) refl

  pub product_step : (a by next : Bound) (o m : Bool) (x : Atom) (fs : Factors) → Some by ≡ small_atom bound x → Some next ≡ if_small (factor_bound o a by) →
      small_product bound next fs ≡ small_product bound a (more_factors (MkFactor o m x) fs)
  product_step a by next o m x fs some more =
      let l = some_if (is_small_atom bound x) (atom_most bound x) by (sym some) in
      let n = some_if (is_small (factor_bound o a by)) (factor_bound o a by) next (sym more) in
      rw (l.0, l.1, n.0, n.1) refl

  pub sum_none : (a : Bound) (p : Part) (ps : Parts) → None ≡ small_part bound p → None ≡ small_sum_from bound a (more_parts p ps)
  sum_none a p ps none = rw (none_if (is_small_part bound p) (part_most bound p) (sym none)) refl

  pub sum_over : (a more : Bound) (p : Part) (ps : Parts) → Some more ≡ small_part bound p → None ≡ if_small (sum_bound a more) → None ≡ small_sum_from bound a (more_parts p ps)
  sum_over a more p ps some none =
      let l = some_if (is_small_part bound p) (part_most bound p) more (sym some) in
      let n = none_if (is_small (sum_bound a more)) (sum_bound a more) (sym none) in
      rw (l.0, l.1, n) refl

  pub sum_step : (a more next : Bound) (p : Part) (ps : Parts) → Some more ≡ small_part bound p → Some next ≡ if_small (sum_bound a more) →
      small_sum_from bound next ps ≡ small_sum_from bound a (more_parts p ps)
  sum_step a more next p ps some made =
      let l = some_if (is_small_part bound p) (part_most bound p) more (sym some) in
      let n = some_if (is_small (sum_bound a more)) (sum_bound a more) next (sym made) in
      rw (l.0, l.1, n.0, n.1) refl
