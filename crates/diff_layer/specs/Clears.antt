-- Which faults of a part the matrices clear where the first layer doesn't.
use Rattle.std.specs.Prelude.{ℕ, ◌||◌, ◌&&◌, not, if◌then◌else◌, Bool, true, false, List, ℤ, neg_ℤ, int_le, Option, Some, None}
use Rattle.std.specs.Option.{option_map_or}
use Rattle.dec_num.specs.declared.types.Mode.{Mode}
use Rattle.dec_num.specs.declared.types.Mode.TheVariants.{Trunc}
use Rattle.cob_data.specs.declared.extent.Extent.{Extent}
use Rattle.interval_domain.specs.declared.bounds.Interval.{Interval}
use Rattle.cob_tree.specs.declared.fault.Kind.{Kind}
use Rattle.cob_tree.specs.declared.fault.Kind.TheVariants as kind
use Rattle.cob_program.specs.Sum.{Atom}
use Rattle.cob_program.specs.Act.{Act, Program}
use Rattle.cob_runs.specs.declared.action.Action.{Action}
use Rattle.cob_runs.specs.Contents.{form_at}
use Rattle.cob_edge_parts.specs.Parts.{Amount, Part, index, divide, store, set_count, count_down}
use Rattle.transfer_ranges.specs.declared.amounts.Taken.{Taken}
use Rattle.transfer_ranges.specs.declared.amounts.Receiver.{Receiver}
use Rattle.transfer_ranges.specs.declared.amounts.AmountRange.{AmountRange}
use Rattle.transfer_ranges.specs.declared.amounts.AmountRange.TheVariants as range
use Rattle.transfer_ranges.specs.Receivers.{receiver_of, counter}
use Rattle.transfer_ranges.specs.ResultRanges.{most, near_range, lowered}
use Rattle.transfer_ranges.specs.Working.{amount_from}
use Rattle.interval_domain.specs.Known.{Known}
use Rattle.cob_graph.specs.declared.homes.Home.TheVariants.{Item as of_item, Count as of_count}
use Rattle.cob_graph.specs.Homes.{homes_of}
use Rattle.cell_steps.specs.Cells.{units_of}
use Rattle.transfer_ranges.specs.EdgeOperands.{is_remainder}
use Rattle.cell_steps.specs.Seen.{Seen}
use Rattle.cell_steps.specs.Stores.{range_at}
use Rattle.cell_layer.specs.Walks.{with_taken_small}
use Rattle.diff_steps.specs.Clearing.{some_pack, is_apart_in}
use Rattle.diff_steps.specs.Forms.{has_operands}
use Rattle.diff_steps.specs.Moments.{Seen2}
use Rattle.diff_steps.specs.Packs.{Pack}
use Rattle.diff_layer.specs.Views.{taken_at}
use Rattle.diff_layer.specs.Ends.{some_end}
use Rattle.diff_layer.specs.Indexes.{index_shown}

-- what is known of cells shows the divisor not to be 0
abbrev pub divisor_apart : Program → List Known → Atom → Pack → List ℤ → Bool
divisor_apart p known d pack m = is_apart_in p (taken_at known None) d pack m

-- ---- ends

module _ (p : Program) (known : List Known) (common : Option Taken) (wrote : List Extent) (y : Part) (mode : Mode) (r : Receiver) where
  -- each end fits by what the first layer shows or by a matrix
  abbrev pub both_shown : Bool → Bool → List Pack → List (List ℤ) → Bool
  both_shown high low packs ms =
      (high || some_end p known common wrote y mode r false packs ms) && (low || some_end p known common wrote y mode r true packs ms)

  abbrev pub range_shown : List Pack → List (List ℤ) → Interval → Bool
  range_shown packs ms i = both_shown (int_le i.high (most r.digits)) (int_le (neg_ℤ (most r.digits)) i.low) packs ms

  -- the matrices show that an amount fits of which the first layer shows nothing
  abbrev pub amount_shown : List Pack → List (List ℤ) → Option AmountRange → Bool
  amount_shown packs ms None = true
  amount_shown packs ms (Some (range.Decimal i)) = range_shown packs ms (near_range mode r.scale i)
  amount_shown packs ms _ = false

module _ (p : Program) (known : List Known) (common : Option Taken) (wrote : List Extent) where
  abbrev pub store_shown : ℕ → Mode → Amount → List Pack → List (List ℤ) → Bool
  store_shown place mode y packs ms =
      not (has_operands p (taken_at known common) wrote y)
      || amount_shown p known common wrote (store place mode y) mode (receiver_of (form_at p.layout place)) packs ms
      (amount_from common y (range_at p known place))

  -- what a counter is set to
  abbrev pub count_shown : Part → List Pack → List (List ℤ) → Bool
  count_shown y packs ms = option_map_or (λ c. range_shown p known common wrote y Trunc counter packs ms c.top.units) common true

-- A store where its operands are taken. A remainder has no form.
module _ (p : Program) (packs : List Pack) (a : Act) (x : Action) where
  abbrev pub taken_shown : ℕ → Mode → Amount → Seen → Seen2 → Bool
  taken_shown place mode y t r = store_shown p (with_taken_small p a x t).cells (with_taken_small p a x t).common r.wrote place mode y packs r.packs

  abbrev pub store_cleared : ℕ → Mode → Amount → Seen → Seen2 → Bool
  store_cleared place mode y t r = if is_remainder y then false else taken_shown place mode y t r

  -- the matrices clear a part that sets a counter, where the count is sent
  abbrev pub set_cleared : Part → Seen → Seen2 → Bool
  set_cleared y t r = count_shown p (with_taken_small p a x t).cells (with_taken_small p a x t).common r.wrote y packs r.packs

module _ (p : Program) (packs : List Pack) where
  abbrev pub down_cleared : ℕ → Seen → Seen2 → Bool
  down_cleared n s r =
      range_shown p s.cells s.common r.wrote (count_down n) Trunc counter packs r.packs (lowered (units_of p.layout (homes_of p) s.cells (of_count n)))

  abbrev pub index_cleared : ℕ → ℕ → Seen → Seen2 → Kind → Bool
  index_cleared k count s r kind.Subscript =
      index_shown p s.cells k count packs r.packs (units_of p.layout (homes_of p) s.cells (of_item k))
  index_cleared k count s r _ = false

module _ (p : Program) (packs : List Pack) (a : Act) (x : Action) where
  -- the fault of a part that the first layer doesn't clear
  abbrev pub part_cleared : Part → Seen → Seen2 → Kind → Bool
  part_cleared (index last k count) s r fault = index_cleared p packs k count s r fault
  part_cleared (divide d) s r kind.Zero = some_pack (divisor_apart p s.cells d) packs r.packs
  part_cleared (store place mode y) s r fault = store_cleared p packs a x place mode y s r
  part_cleared (set_count n y) s r kind.Size = set_cleared p packs a x (set_count n y) s r
  part_cleared (count_down n) s r kind.Size = down_cleared p packs n s r
  part_cleared _ s r fault = false

-- the part sets a counter
abbrev pub IsSetCount : Part → Type 0
IsSetCount (set_count n y) = Unit {0}
IsSetCount _ = ⊥
