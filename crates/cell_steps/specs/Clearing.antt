-- Which faults what is seen before a part shows not to be met there.
use Rattle.std.specs.Prelude.{ℕ, ◌||◌, ◌&&◌, not, Bool, true, false, List, [], ◌∷◌, is_some, pos, int_le}
use Rattle.std.specs.Option.{option_map_or}
use Rattle.dec_num.specs.declared.types.Mode.{Mode}
use Rattle.interval_domain.specs.declared.bounds.Interval.{Interval}
use Rattle.cob_tree.specs.declared.fault.Kind.{Kind}
use Rattle.cob_tree.specs.declared.fault.Kind.TheVariants as kind
use Rattle.cob_program.specs.Values.{root_of}
use Rattle.cob_program.specs.Act.{Act, Program}
use Rattle.cob_runs.specs.declared.action.Action.{Action}
use Rattle.cob_runs.specs.Contents.{form_at}
use Rattle.cob_edge_parts.specs.Parts.{Amount, moved, remaining, Part, read, unread, subscript, index, divide, store, read_count, set_count, count_down, has_phrase}
use Rattle.sum_ranges.specs.SumRanges.{atom_range}
use Rattle.sum_ranges.specs.Vanishing.{holds_zero}
use Rattle.transfer_ranges.specs.declared.amounts.Taken.{Taken}
use Rattle.transfer_ranges.specs.Receivers.{receiver_of}
use Rattle.transfer_ranges.specs.ResultRanges.{may_fail, lowered, count_may_fail}
use Rattle.cob_graph.specs.declared.homes.Home.TheVariants.{Item as of_item, Count as of_count}
use Rattle.cob_graph.specs.Homes.{homes_of}
use Rattle.cell_steps.specs.Cells.{is_known, units_of, is_numeric}
use Rattle.transfer_ranges.specs.EdgeOperands.{amount_of}
use Rattle.cell_steps.specs.Seen.{Seen}
use Rattle.cell_steps.specs.Stores.{range_at, with_taken}
use Rattle.cell_steps.specs.Steps.{step}

-- whether a store's fault is of this kind
abbrev pub is_misfit : Amount → Kind → Bool
is_misfit (moved y) kind.Truncation = true
is_misfit (moved y) _ = false
is_misfit _ kind.Size = true
is_misfit _ _ = false

-- a remainder is what a quotient leaves
abbrev pub has_quotient : Amount → Bool
has_quotient (remaining s scale) = is_some (root_of s)
has_quotient _ = true

-- each number is that of an occurrence
abbrev pub lies_in_table : ℕ → Interval → Bool
lies_in_table count i = int_le (pos 1) i.low && int_le i.high (pos count)

module _ (p : Program) (a : Act) (x : Action) where
  -- Each result fits. Where there is none, since a divisor is 0 alone, nothing is asked.
  abbrev pub all_fit_of : Seen → ℕ → Mode → Amount → Taken → Bool
  all_fit_of t place mode amount c =
      option_map_or (λ r. not (may_fail mode (receiver_of (form_at p.layout place)) r))
      (amount_of amount (range_at p t.cells place) c) true

  abbrev pub all_fit : Seen → ℕ → Mode → Amount → Bool
  all_fit t place mode amount = has_quotient amount && option_map_or (all_fit_of t place mode amount) t.common true

  -- the number that a counter is set to fits
  abbrev pub all_count : Seen → Bool
  all_count t = option_map_or (λ c. not (count_may_fail c.top.units)) t.common true

  abbrev pub clears_part : Part → Seen → Kind → Bool
  clears_part (read place) s kind.Class = is_numeric p.layout (homes_of p) s.cells place
  clears_part unread s kind.Class = false
  clears_part (subscript last k) s kind.Class = is_numeric p.layout (homes_of p) s.cells k
  clears_part (index last k count) s kind.Subscript = lies_in_table count (units_of p.layout (homes_of p) s.cells (of_item k))
  clears_part (divide d) s kind.Zero = has_phrase a || not (holds_zero (atom_range (range_at p s.cells) d))
  clears_part (store place mode amount) s fault =
      has_phrase a || (not (is_misfit amount fault) || all_fit (with_taken p a x s) place mode amount)
  clears_part (read_count statement) s kind.Class = is_known (homes_of p) s.cells (of_count statement)
  clears_part (set_count statement y) s kind.Size = all_count (with_taken p a x s)
  clears_part (count_down statement) s kind.Size = not (count_may_fail (lowered (units_of p.layout (homes_of p) s.cells (of_count statement))))
  clears_part _ s fault = true

  -- Each part at its moment. One that no run comes to asks nothing.
  abbrev pub clears_parts : List Part → Seen → Kind → Bool
  clears_parts [] s fault = true
  clears_parts (y ∷ ys) s fault = clears_part y s fault && option_map_or (λ t. clears_parts ys t fault) (step p a x y s) true
