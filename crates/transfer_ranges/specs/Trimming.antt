-- An item's numbers cut by one range of values after the other.
use Rattle.std.specs.Prelude.{ℕ, Bool, true, false, List, [], ◌∷◌, Option, Some}
use Rattle.interval_domain.specs.declared.bounds.Interval.{Interval}
use Rattle.interval_domain.specs.Corners.{either_of}
use Rattle.cob_tree.specs.declared.token.Rel.TheVariants as rel
use Rattle.cob_data.specs.declared.layout.Pair.{Pair}
use Rattle.cob_program.specs.Values.{◌>>=◌}
use Rattle.sum_ranges.specs.declared.ranged.Ranged.{Ranged}
use Rattle.sum_ranges.specs.Ranged.{ranged}
use Rattle.transfer_ranges.specs.Kept.{kept_in}
use Rattle.transfer_ranges.specs.Sides.{left_kept}
use Rattle.transfer_ranges.specs.Members.{can_lie, can_be}

-- from some number of the low end to some number of the high one
abbrev pub within_kept : Ranged → Ranged → Ranged → Option Interval
within_kept item low high =
    left_kept rel.AtLeast true item low >>= λ units. left_kept rel.AtMost true (ranged units item.scale) high

-- below some number of the low end, or above some number of the high one
abbrev pub outside_kept : Ranged → Ranged → Ranged → Option Interval
outside_kept item low high = either_of (left_kept rel.AtLeast false item low) (left_kept rel.AtMost false item high)

module _ (range : ℕ → Ranged) where
  -- what can lie between the ends of one, or outside
  abbrev pub pair_kept : Bool → Ranged → Pair → Option Interval
  pair_kept wanted item p = kept_in (λ x. can_lie range wanted x p) item

  -- what can lie in some of them, or in none
  abbrev pub pairs_kept : Bool → Ranged → List Pair → Option Interval
  pairs_kept wanted item ps = kept_in (can_be range wanted ps) item

  -- what is left of the item beside one, then of that beside the next
  abbrev pub trimmed : Ranged → List Pair → Option Interval
  trimmed item [] = Some item.units
  trimmed item (p ∷ ps) = pair_kept false item p >>= λ units. trimmed (ranged units item.scale) ps
