-- What a store makes of what is seen before it, and whether it may fit or may fail.
use Rattle.std.specs.Prelude.{ℕ, ◌||◌, ◌&&◌, if◌then◌else◌, Bool, true, false, List, [], ◌∷◌, Option, Some, None, is_some}
use Rattle.std.specs.Option.{option_map, option_map_or}
use Rattle.dec_num.specs.declared.types.Mode.{Mode}
use Rattle.interval_domain.specs.declared.bounds.Interval.{Interval}
use Rattle.cob_tree.specs.declared.form.Form.{Form}
use Rattle.cob_tree.specs.declared.form.Form.TheVariants as form
use Rattle.cob_program.specs.declared.act.Target.{Target}
use Rattle.cob_program.specs.Values.{◌>>=◌}
use Rattle.cob_program.specs.Act.{Act, arith, Program}
use Rattle.cob_runs.specs.declared.action.Action.{Action}
use Rattle.cob_runs.specs.Contents.{form_at}
use Rattle.cob_edge_parts.specs.Parts.{Amount, is_handled}
use Rattle.sum_ranges.specs.declared.ranged.Ranged.{Ranged}
use Rattle.transfer_ranges.specs.declared.amounts.AmountRange.{AmountRange}
use Rattle.transfer_ranges.specs.Receivers.{receiver_of}
use Rattle.transfer_ranges.specs.ResultRanges as result
use Rattle.interval_domain.specs.Known.{Known, joined_known}
use Rattle.interval_domain.specs.Elements.{Element, joined_element}
use Rattle.cob_graph.specs.declared.homes.Home.TheVariants.{Item as of_item}
use Rattle.cob_graph.specs.Homes.{homes_of}
use Rattle.cell_steps.specs.Cells as cells
use Rattle.cell_steps.specs.Cells.{is_table, with_known, forgotten, is_beside}
use Rattle.cell_steps.specs.Storages.{known_of}
use Rattle.transfer_ranges.specs.EdgeOperands.{edge_operands, operands_vanish, amount_of, is_remainder}
use Rattle.transfer_ranges.specs.Working.{may_vanish}
use Rattle.cell_steps.specs.Seen.{Seen}

-- ---- what is known behind a store

-- Of a table's item one occurrence is new, and the others stay. An edited item has no cell.
abbrev pub stored_known : Bool → Form → Known → Interval → Known
stored_known table (form.Number digits scale signed kept) old new = if table then joined_known old (Some new) else Some new
stored_known table _ old new = None

module _ (p : Program) where
  abbrev pub range_at : List Known → ℕ → Ranged
  range_at known place = cells.range_at p.layout (homes_of p) known place

  -- what is known of the item itself behind a store into one of its occurrences
  abbrev pub receiver_known : ℕ → List Known → Interval → Known
  receiver_known place known new =
      stored_known (is_table p.layout place) (form_at p.layout place) (known_of (homes_of p) known (of_item place)) new

  -- The item is known so, and what has bytes of it is forgotten.
  abbrev pub stored_cells : ℕ → List Known → Interval → List Known
  stored_cells place known new =
      with_known (of_item place) (receiver_known place known new) (homes_of p)
      (forgotten (is_beside p.layout place) (homes_of p) known)

-- what is kept, if the store may fail, and what is stored, if it may fit
abbrev pub stored_element : Bool → List Known → Option (List Known) → Element
stored_element fails kept stored = joined_element (if fails then Some kept else None) stored

abbrev pub behind_store : Seen → Bool → Element → Option Seen
behind_store t fails None = None
behind_store t fails (Some known) = Some (record {
  cells = known;
  written = t.written;
  common = t.common;
  may_zero = t.may_zero;
  any_fail = t.any_fail || fails;
})

-- one receiver, and no REMAINDER
abbrev pub is_one_receiver : List Target → Option ℕ → Bool
is_one_receiver (t ∷ []) None = true
is_one_receiver targets remainder = false

abbrev pub has_one_receiver : Act → Bool
has_one_receiver (arith s targets remainder size fine) = is_one_receiver targets remainder
has_one_receiver _ = false

-- An edge to the list of ON SIZE ERROR, where a statement has one receiver: what failed is that one, and it keeps its value.
abbrev pub keeps_receiver : Act → Action → Bool
keeps_receiver a x = is_handled a x && has_one_receiver a

-- An edge of a program's graph: what its node's statement does, and which of the statement's edges it is.
module _ (p : Program) (a : Act) (x : Action) where
  -- it goes to the list of ON SIZE ERROR
  abbrev pub handled : Bool
  handled = is_handled a x

  abbrev pub taking : Seen → Seen
  taking s = record {
    cells = s.cells;
    written = true;
    common = edge_operands (range_at p s.cells) a x;
    may_zero = s.may_zero || (handled && operands_vanish (range_at p s.cells) a);
    any_fail = s.any_fail;
  }

  -- Operands are taken before the first part that writes.
  abbrev pub with_taken : Seen → Seen
  with_taken s = if s.written then s else taking s

  -- ---- a store, where operands are taken

  abbrev pub amount_at : Seen → ℕ → Amount → Option AmountRange
  amount_at t place amount = t.common >>= amount_of amount (range_at p t.cells place)

  -- the receiver's units, where some result is stored: one that fits, on an edge that doesn't keep its receiver
  abbrev pub result_at : Seen → ℕ → Mode → Amount → Option Interval
  result_at t place mode amount =
      if keeps_receiver a x then None
      else amount_at t place amount >>= result.result_range mode (receiver_of (form_at p.layout place))

  abbrev pub may_fit : Seen → ℕ → Mode → Amount → Bool
  may_fit t place mode amount = is_some (result_at t place mode amount)

  -- some result doesn't fit
  abbrev pub may_exceed : Seen → ℕ → Mode → Amount → Bool
  may_exceed t place mode amount =
      option_map_or (result.may_fail mode (receiver_of (form_at p.layout place))) (amount_at t place amount) true

  -- On an edge of size errors the receiver may keep its value: a result may not fit, a divisor may be 0, or the
  -- remainder's quotient may have failed.
  abbrev pub may_fail : Seen → ℕ → Mode → Amount → Bool
  may_fail t place mode amount =
      handled && (may_exceed t place mode amount || (t.may_zero || (may_vanish t.common amount
      || (is_remainder amount && t.any_fail))))

  abbrev pub stored : Seen → ℕ → Mode → Amount → Option Seen
  stored t place mode amount =
      behind_store t (may_fail t place mode amount)
      (stored_element (may_fail t place mode amount) t.cells
      (option_map (stored_cells p place t.cells) (result_at t place mode amount)))
