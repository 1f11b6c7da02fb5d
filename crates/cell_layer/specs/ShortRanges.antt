-- The ranges of items as words hold them.
use Rattle.std.specs.Prelude.{ℕ, if◌then◌else◌, Bool, List, pos}
use Rattle.cob_program.specs.Bounds.{is_small}
use Rattle.cob_program.specs.Act.{Program}
use Rattle.cob_calc.specs.Contents.{bound_at}
use Rattle.sum_ranges.specs.declared.ranged.Ranged.{Ranged}
use Rattle.sum_ranges.specs.Ranged.{decimal, point}
use Rattle.interval_domain.specs.Known.{Known}
use Rattle.cell_steps.specs.Stores.{range_at}

-- a range, or 0 in the place of one with more digits than the arithmetic works with
abbrev pub if_small : Bool → Ranged → Ranged
if_small small r = if small then r else point (decimal (pos 0) r.scale)

-- what is answered for the range of an item
abbrev pub short_range_at : Program → List Known → ℕ → Ranged
short_range_at p cells place = if_small (is_small (bound_at p.layout place)) (range_at p cells place)
