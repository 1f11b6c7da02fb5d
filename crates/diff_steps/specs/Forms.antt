-- What receivers get, as linear forms over the cells of a pack.
use Rattle.std.specs.Prelude.{ℕ, ◌==◌, ◌||◌, ◌&&◌, if◌then◌else◌, Bool, true, false, List, ℤ, pos, neg_ℤ, ◌^◌, Option, Some, None, is_some}
use Rattle.std.specs.List.{list_any}
use Rattle.std.specs.Option.{option_map}
use Rattle.interval_domain.specs.Corners.{interval}
use Rattle.cob_data.specs.declared.extent.Extent.{Extent}
use Rattle.cob_data.specs.declared.layout.Layout.{Layout}
use Rattle.cob_data.specs.declared.layout.Sender.{Sender}
use Rattle.cob_data.specs.declared.layout.Sender.TheVariants as sender
use Rattle.cob_program.specs.declared.act.How.{How}
use Rattle.cob_program.specs.declared.act.How.TheVariants as how
use Rattle.cob_program.specs.Sum.{Sum, MkSum, no_parts, more_parts, MkPart, no_factors, more_factors, MkFactor}
use Rattle.cob_program.specs.Values.{◌>>=◌, root_of}
use Rattle.cob_program.specs.Act.{Program}
use Rattle.cob_runs.specs.Contents.{form_at, scale_of}
use Rattle.cob_runs.specs.Computing.{items_in}
use Rattle.cob_edge_parts.specs.Parts.{Amount, moved, computed, remaining, augmented}
use Rattle.diff_bounds.specs.declared.form.lin.Lin.{Lin}
use Rattle.diff_bounds.specs.Forms.{if_small}
use Rattle.diff_bounds.specs.Results.{sum_of}
use Rattle.sum_ranges.specs.Ranged.{ranged}
use Rattle.sum_ranges.specs.SumRanges.{product_range, sum_range}
use Rattle.sum_forms.specs.Constants.{constant_form, range_form, item_form}
use Rattle.sum_forms.specs.Literals.{whole_factor}
use Rattle.sum_forms.specs.SumForms.{scaled_form, turned_form, sum_form}
use Rattle.transfer_ranges.specs.declared.amounts.Taken.{Taken}
use Rattle.cob_graph.specs.declared.homes.Home.TheVariants.{Item as of_item, Count as of_count}
use Rattle.cob_graph.specs.Homes.{homes_of}
use Rattle.cell_steps.specs.Cells.{units_of}
use Rattle.transfer_ranges.specs.EdgeOperands.{settled}
use Rattle.cell_steps.specs.Seen.{Seen}
use Rattle.cell_steps.specs.Stores.{range_at}
use Rattle.diff_steps.specs.Packs.{Pack, cell_of, pack_decimals}
use Rattle.diff_steps.specs.Moments.{is_written}

-- ---- literals

abbrev pub negated_if : Bool → ℤ → ℤ
negated_if false k = k
negated_if true k = neg_ℤ k

-- the whole number that a sum is, if it is one literal
abbrev pub whole_sum : Sum → Option ℤ
whole_sum (MkSum (more_parts (MkPart minus (more_factors (MkFactor over m atom) no_factors)) no_parts)) =
    option_map (negated_if minus) (whole_factor over m atom)
whole_sum _ = None

-- ---- two forms

abbrev pub added_forms : Option Lin → Option Lin → Option Lin
added_forms a b = a >>= λ x. b >>= λ y. if_small (sum_of x y)

abbrev pub turned_if : Bool → Option Lin → Option Lin
turned_if minus a = a >>= turned_form minus

-- ---- senders

-- numbers without decimals
abbrev pub is_whole_sender : Layout → Sender → Bool
is_whole_sender l (sender.Item place) = scale_of (form_at l place) == 0
is_whole_sender l (sender.Number n) = n.scale == 0
is_whole_sender l x = true

-- ---- amounts

-- Operands that are read off their items have a range. No run comes to a store that can't fail where they have none.
abbrev pub has_operands : Program → Seen → List Extent → Amount → Bool
has_operands p t wrote (computed s h) = list_any (is_written p.layout wrote) (items_in s) || is_some (sum_range (range_at p t.cells) s)
has_operands p t wrote y = true

-- Where operands were taken, by what was known of cells right before the store, and by what the edge had written to.
module _ (p : Program) (pack : Pack) (t : Seen) (wrote : List Extent) where
  abbrev pub decimals : ℕ
  decimals = pack_decimals p.layout pack

  abbrev pub cell_at : ℕ → Option ℕ
  cell_at place = cell_of pack (of_item place)

  -- the receiver's own number
  abbrev pub own_form : ℕ → Option Lin
  own_form place = item_form decimals (cell_at place) (range_at p t.cells place)

  -- What a subscript is: the units of its item, which are its number where it has no decimals.
  abbrev pub subscript_form : ℕ → Option Lin
  subscript_form k = if is_whole_sender p.layout (sender.Item k) then own_form k else None

  abbrev pub counter_form : ℕ → Option Lin
  counter_form statement =
      item_form decimals (cell_of pack (of_count statement)) (ranged (units_of p.layout (homes_of p) t.cells (of_count statement)) 0)

  -- What operands were when they were taken. A quotient that stays exact has no form.
  abbrev pub kept_form : Option Taken → Option Lin
  kept_form None = None
  kept_form (Some c) = if is_some c.under then None else range_form decimals c.top

  abbrev pub taken_form : Bool → Option Lin
  taken_form true = kept_form t.common
  taken_form false = kept_form (t.common >>= settled)

  -- Operands to whose bytes the edge has written are what they were then.
  abbrev pub operands_form : Bool → Sum → Option Lin
  operands_form whole s =
      if list_any (is_written p.layout wrote) (items_in s) then taken_form whole
      else (if whole && is_some (root_of s) then None else sum_form decimals cell_at (range_at p t.cells) s)

  abbrev pub item_sent : ℕ → Option ℕ → Bool → Option Lin
  item_sent place (Some k) false = own_form place
  item_sent place (Some k) true = kept_form t.common
  item_sent place None written = kept_form t.common

  abbrev pub sender_form : Sender → Option Lin
  sender_form (sender.Item place) = item_sent place (cell_at place) (is_written p.layout wrote place)
  sender_form x = kept_form t.common

  -- What a counter is set to: the units of a sender, which are its number where it has no decimals.
  abbrev pub set_form : Sender → Option Lin
  set_form x = if is_whole_sender p.layout x then sender_form x else None

  -- a whole literal scales what the receiver is worth
  abbrev pub multiplied_form : ℕ → Option ℤ → Option Lin
  multiplied_form place (Some k) = own_form place >>= scaled_form k
  multiplied_form place None =
      (t.common >>= settled) >>= λ c. range_form decimals (product_range (range_at p t.cells place) c.top)

  abbrev pub computed_form : ℕ → Sum → How → Option Lin
  computed_form place s how.Whole = operands_form true s
  computed_form place s how.Plus = added_forms (own_form place) (operands_form false s)
  computed_form place s how.Minus = added_forms (own_form place) (turned_if true (operands_form false s))
  computed_form place s how.Times = multiplied_form place (whole_sum s)
  computed_form place s how.Under = None

  -- what the item gets
  abbrev pub amount_form : ℕ → Amount → Option Lin
  amount_form place (moved x) = sender_form x
  amount_form place (computed s h) = computed_form place s h
  amount_form place (remaining s scale) = None
  amount_form place (augmented x) = added_forms (own_form place) (sender_form x)

  -- the counter's own number less one
  abbrev pub lowered_form : ℕ → Option Lin
  lowered_form statement =
      added_forms (counter_form statement)
      (if_small (constant_form (interval (neg_ℤ (pos (10 ^ decimals))) (neg_ℤ (pos (10 ^ decimals))))))
