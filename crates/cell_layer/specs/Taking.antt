-- What is taken of a sum, each range as an interval beside its scale.
use Rattle.std.specs.Prelude.{Bool, List, Option, option_map}
use Rattle.std.specs.Option.{option_map_or}
use Rattle.cob_program.specs.Sum.{Sum}
use Rattle.cob_program.specs.Act.{Program}
use Rattle.transfer_ranges.specs.declared.amounts.Taken as ranges
use Rattle.transfer_ranges.specs.Operands.{taken_sum}
use Rattle.interval_domain.specs.Known.{Known}
use Rattle.cell_steps.specs.Stores.{range_at}
use Rattle.cell_layer.specs.declared.row.scales.Taken.{Taken}

-- the scale of what divides is 0 where nothing does
abbrev pub with_scales : ranges.Taken → Taken
with_scales t = record {
  top = t.top.units;
  scale = t.top.scale;
  under = option_map (λ r. r.units) t.under;
  under_scale = option_map_or (λ r. r.scale) t.under 0;
}

-- A sum of a program, whose whole is stored or not, by what is known of its cells; nothing where a divisor in it is 0 alone.
abbrev pub taken_of : Program → List Known → Bool → Sum → Option Taken
taken_of p cells root s = option_map with_scales (taken_sum (range_at p cells) root s)
