-- Ranges of items lie within the bounds of their pictures.
use Rattle.std.proofs.Common.{◌≤◌, ℕ, ◌-◌, ◌^◌, Bool, true, false, List, Some, ℤ, pos, ◌≤ℤ◌, arith, refl}
use Rattle.std.specs.Prelude.{unsigned_abs, neg_ℤ}
use Rattle.std.proofs.lemmas.Int.{ints}
use Rattle.cob_tree.specs.declared.form.Form.{Form}
use Rattle.cob_tree.specs.declared.form.Form.TheVariants as form
use Rattle.cob_program.specs.Bounds.{Bound, of_digits, form_bound, is_small}
use Rattle.cob_program.specs.Act.{Program}
use Rattle.cob_runs.specs.Contents.{form_at, scale_of}
use Rattle.cob_calc.specs.Contents.{bound_at}
use Rattle.interval_domain.specs.declared.bounds.Interval.{Interval}
use Rattle.sum_ranges.specs.declared.ranged.Ranged.{Ranged}
use Rattle.sum_ranges.specs.Ranged.{ranged}
use Rattle.sum_ranges.specs.Sizes.{IsRangeWithin}
use Rattle.sum_ranges.specs.Working.{AreBounded}
use Rattle.interval_domain.specs.Known.{Known, KnownFits}
use Rattle.interval_domain.specs.Elements.{CellsFit}
use Rattle.cob_graph.specs.declared.homes.Home.TheVariants.{Item as of_item}
use Rattle.cob_graph.specs.Homes.{homes_of}
use Rattle.cell_steps.specs.OwnRanges.{owns, picture_range, form_range}
use Rattle.cell_steps.specs.Cells.{units_of}
use Rattle.cell_steps.specs.Stores.{range_at}
use Rattle.cell_laws.proofs.ItemRanges.{units_fit}
use Rattle.cell_layer.specs.ShortRanges.{if_small, short_range_at}

size_within : (m : ℕ) (z : ℤ) → neg_ℤ (pos m) ≤ℤ z → z ≤ℤ pos m → unsigned_abs z ≤ m
size_within m z low high = omega (arith, ints, low, high)

pub signed_ends : (m : ℕ) (a b : ℤ) → neg_ℤ (pos m) ≤ℤ a → a ≤ℤ b → b ≤ℤ pos m → (unsigned_abs a ≤ m) × (unsigned_abs b ≤ m)
signed_ends m a b low ordered high =
    (size_within m a low (omega (arith, ints, ordered, high)), size_within m b (omega (arith, ints, low, ordered)) high)

picture_within : (digits scale : ℕ) (signed : Bool) (i : Interval) → KnownFits (picture_range digits signed) (Some i) →
    IsRangeWithin (ranged i scale) (of_digits digits scale)
picture_within digits scale true i h =
    let ends = signed_ends (10 ^ digits - 1) i.low i.high h.0 h.1 h.2 in
    record { ordered = h.1; low = ends.0; high = ends.1; scale = refl }
picture_within digits scale false i h =
    let low = h.0 in
    let ends = signed_ends (10 ^ digits - 1) i.low i.high (omega (arith, ints, low)) h.1 h.2 in
    record { ordered = h.1; low = ends.0; high = ends.1; scale = refl }

pub form_within : (f : Form) (i : Interval) → KnownFits (form_range f) (Some i) → IsRangeWithin (ranged i (scale_of f)) (form_bound f)
form_within form.Group i h = picture_within 0 0 false i h
form_within (form.Text n) i h = picture_within n 0 false i h
form_within (form.Number digits scale signed kept) i h = picture_within digits scale signed i h
form_within (form.Edited picture digits scale) i h = picture_within digits scale false i h

if_small_within : (t : Bool) (r : Ranged) (b : Bound) → IsRangeWithin r b → IsRangeWithin (if_small t r) b
if_small_within true r b h = h
if_small_within false r b h = record { ordered = omega (arith, ints); low = omega (arith, ints); high = omega (arith, ints); scale = h.scale }

-- where what is known of cells lies in their own ranges
pub bounded : (p : Program) (cells : List Known) → CellsFit (owns p) cells → AreBounded (short_range_at p cells) (bound_at p.layout)
bounded p cells fits = record {
  held = λ place.
      if_small_within (is_small (bound_at p.layout place)) (range_at p cells place) (bound_at p.layout place)
      (form_within (form_at p.layout place) (units_of p.layout (homes_of p) cells (of_item place))
      (units_fit p.layout (homes_of p) cells (of_item place) fits));
}
