-- Forms that are constants, and those of single cells. A pack's unit is a decimal place of its own: so many decimals.
use Rattle.std.specs.Prelude.{ℕ, ◌-◌, ◌^◌, nat_eq, nat_le, if◌then◌else◌, true, ℤ, pos, neg_ℤ, ◌*ℤ◌, Option, Some, None}
use Rattle.std.specs.Int.{int_div_euclid}
use Rattle.dec_num.specs.declared.types.Scaled.{Scaled}
use Rattle.interval_domain.specs.declared.bounds.Interval.{Interval}
use Rattle.interval_domain.specs.Corners.{interval}
use Rattle.cob_program.specs.Values.{negated}
use Rattle.diff_bounds.specs.declared.form.lin.Lin.{Lin}
use Rattle.diff_bounds.specs.Forms.{form_of, if_small}
use Rattle.sum_ranges.specs.declared.ranged.Ranged.{Ranged}
use Rattle.sum_ranges.specs.Ranged.{decimal}

-- in units of so many decimals, rounded down
abbrev pub floor_at : ℕ → Scaled → ℤ
floor_at f v =
    if nat_le v.scale f then v.units *ℤ pos (10 ^ (f - v.scale)) else int_div_euclid v.units (pos (10 ^ (v.scale - f)))

-- rounded up
abbrev pub ceiling_at : ℕ → Scaled → ℤ
ceiling_at f v = neg_ℤ (floor_at f (negated true v))

-- the whole units between which the range lies
abbrev pub outward : ℕ → Ranged → Interval
outward f r = interval (floor_at f (decimal r.units.low r.scale)) (ceiling_at f (decimal r.units.high r.scale))

abbrev pub constant_form : Interval → Lin
constant_form i = form_of (λ k. pos 0) i

-- a range's form, where its ends are small
abbrev pub range_form : ℕ → Ranged → Option Lin
range_form f r = if_small (constant_form (outward f r))

-- the value of a cell of the pack, cells counted from 0
abbrev pub cell_form : ℕ → Lin
cell_form k = form_of (λ j. if nat_eq j k then pos 1 else pos 0) (interval (pos 0) (pos 0))

-- The form of an item: that of its cell, and the constant of its range where the pack has no cell of it.
abbrev pub item_form : ℕ → Option ℕ → Ranged → Option Lin
item_form f (Some k) r = Some (cell_form k)
item_form f None r = range_form f r
