-- What a store makes of a pack's matrix.
use Rattle.std.specs.Prelude.{ℕ, suc, ◌||◌, nat_le, if◌then◌else◌, Bool, true, false, List, [], ◌∷◌, ℤ, pos, int_le, Option, Some, None}
use Rattle.dec_num.specs.declared.types.Mode.{Mode}
use Rattle.interval_domain.specs.declared.bounds.Interval.{Interval}
use Rattle.cob_program.specs.Values.{◌>>=◌}
use Rattle.diff_bounds.specs.declared.form.lin.Lin.{Lin}
use Rattle.diff_bounds.specs.Forms.{if_small}
use Rattle.diff_bounds.specs.Results.{sum_of}
use Rattle.diff_bounds.specs.Upper.{upper_of}
use Rattle.sum_ranges.specs.declared.ranged.Ranged.{Ranged}
use Rattle.diff_bounds.specs.declared.form.known.Known as sure
use Rattle.diff_bounds.specs.Errors.{error_in}
use Rattle.transfer_ranges.specs.declared.amounts.AmountRange.{AmountRange}
use Rattle.transfer_ranges.specs.declared.amounts.AmountRange.TheVariants as range
use Rattle.sum_forms.specs.Constants.{constant_form}
use Rattle.sum_forms.specs.SumForms.{turned_form}
use Rattle.cob_graph.specs.declared.homes.Home.{Home}
use Rattle.diff_steps.specs.Matrices.{forgotten, assigned, lesser}

-- ---- what is surely known of an amount

-- a bound that isn't above 0
abbrev pub is_low : Option ℤ → Bool
is_low None = false
is_low (Some u) = int_le u (pos 0)

-- the bound that a matrix shows of the negated form
abbrev pub upper_negated : ℕ → List ℤ → Lin → Option ℤ
upper_negated size m form = turned_form true form >>= upper_of size m

-- By the amount's range or by the matrix. A quotient that stays exact and a remainder have no form, and aren't asked.
abbrev pub known_of_range : ℕ → List ℤ → Lin → ℕ → Ranged → sure.Known
known_of_range size m form to r = record {
  whole = nat_le r.scale to;
  not_negative = int_le (pos 0) r.units.low || is_low (upper_negated size m form);
  not_positive = int_le r.units.high (pos 0) || is_low (upper_of size m form);
}

abbrev pub known_of_amount : ℕ → List ℤ → Lin → ℕ → Option AmountRange → sure.Known
known_of_amount size m form to (Some (range.Decimal r)) = known_of_range size m form to r
known_of_amount size m form to _ = record { whole = false; not_negative = false; not_positive = false }

-- ---- images

-- the form with an error
abbrev pub widened_form : Lin → Interval → Option Lin
widened_form form e = if_small (sum_of form (constant_form e))

abbrev pub assigned_or_forgotten : ℕ → ℕ → Option Lin → List ℤ → List ℤ
assigned_or_forgotten size to None m = forgotten size to m
assigned_or_forgotten size to (Some form) m = assigned size to form m

-- A receiver without a sign gets the absolute value: the form where that isn't negative, the negated one where it isn't
-- positive, and where it is neither each word is the lesser of those of both. Where nothing is sure it is forgotten.
abbrev pub absolute_stored : ℕ → ℕ → Option Lin → Bool → Bool → List ℤ → List ℤ
absolute_stored size to form true true m =
    lesser size (assigned_or_forgotten size to form m) (assigned_or_forgotten size to (form >>= turned_form true) m)
absolute_stored size to form true false m = assigned_or_forgotten size to form m
absolute_stored size to form false true m = assigned_or_forgotten size to (form >>= turned_form true) m
absolute_stored size to form false false m = forgotten size to m

abbrev pub value_stored : ℕ → ℕ → Bool → sure.Known → Option Lin → List ℤ → List ℤ
value_stored size to true k form m = assigned_or_forgotten size to form m
value_stored size to false k form m = absolute_stored size to form k.not_negative k.not_positive m

-- what is stored of a form at a place, in units of so many of the pack's
abbrev pub form_stored : ℕ → ℕ → Bool → Mode → ℕ → sure.Known → Lin → List ℤ → List ℤ
form_stored size to signed mode unit k form m =
    value_stored size to signed k (widened_form form (error_in k mode (pos unit))) m

-- ---- cells that are forgotten

-- each cell of which the test is true, places from `at` on
abbrev pub forgotten_cells : ℕ → (Home → Bool) → ℕ → List Home → List ℤ → List ℤ
forgotten_cells size is_gone at [] m = m
forgotten_cells size is_gone at (h ∷ hs) m =
    forgotten_cells size is_gone (suc at) hs (if is_gone h then forgotten size at m else m)
