-- What a relation of two sums leaves of a pack's matrix.
use Rattle.std.specs.Prelude.{ℕ, ◌&&◌, nat_le, if◌then◌else◌, Bool, true, false, List, ℤ, pos, Option, Some, None}
use Rattle.interval_domain.specs.Corners.{interval}
use Rattle.cob_tree.specs.declared.token.Rel.{Rel}
use Rattle.cob_program.specs.Sum.{Sum}
use Rattle.cob_program.specs.Values.{◌>>=◌}
use Rattle.cob_runs.specs.Deciding.{below, equal, above, holds}
use Rattle.diff_bounds.specs.declared.form.lin.Lin.{Lin}
use Rattle.diff_bounds.specs.Forms.{if_small}
use Rattle.diff_bounds.specs.Results.{sum_of}
use Rattle.sum_ranges.specs.declared.ranged.Ranged.{Ranged}
use Rattle.sum_ranges.specs.SumRanges.{sum_range}
use Rattle.sum_forms.specs.Constants.{constant_form}
use Rattle.sum_forms.specs.SumForms.{turned_form, sum_form}
use Rattle.transfer_ranges.specs.Sides.{is_wanted}
use Rattle.diff_steps.specs.Matrices.{demanded, lesser}

-- ---- demands

abbrev pub demanded_if : ℕ → Option Lin → List ℤ → List ℤ
demanded_if size None m = m
demanded_if size (Some form) m = demanded size form m

-- A number of the form is below 0: where it has no more decimals than the pack's unit, it is at most -1.
abbrev pub strictly : Bool → Lin → Option Lin
strictly true form = if_small (sum_of form (constant_form (interval (pos 1) (pos 1))))
strictly false form = Some form

-- the form is at most 0, or below 0
abbrev pub at_most : Bool → Bool → Option Lin → Option Lin
at_most fine even form = form >>= λ g. if even then Some g else strictly fine g

-- By which orders of the two sides are left. An equality is two demands, each over the matrix as it was.
abbrev pub ordered : ℕ → Bool → Option Lin → Bool → Bool → Bool → List ℤ → List ℤ
ordered size fine form true even false m = demanded_if size (at_most fine even form) m
ordered size fine form false even true m = demanded_if size (at_most fine even (form >>= turned_form true)) m
ordered size fine form false true false m =
    lesser size (demanded_if size form m) (demanded_if size (form >>= turned_form true) m)
ordered size fine form _ _ _ m = m

-- ---- relations

module _ (f : ℕ) (cell : ℕ → Option ℕ) (range : ℕ → Ranged) where
  -- the left side less the right side
  abbrev pub difference_form : Sum → Sum → Option Lin
  difference_form a b =
      sum_form f cell range a >>= λ x. sum_form f cell range b >>= λ y. turned_form true y >>= λ z. if_small (sum_of x z)

  abbrev pub has_decimals : Option Ranged → Bool
  has_decimals None = false
  has_decimals (Some r) = nat_le r.scale f

  -- both sides are whole numbers of the pack's unit
  abbrev pub are_fine : Sum → Sum → Bool
  are_fine a b = has_decimals (sum_range range a) && has_decimals (sum_range range b)

  abbrev pub related : ℕ → Sum → Rel → Sum → Bool → List ℤ → List ℤ
  related size a r b wanted m =
      ordered size (are_fine a b) (difference_form a b) (is_wanted wanted (holds r below)) (is_wanted wanted (holds r equal))
      (is_wanted wanted (holds r above)) m
