-- Forms of amounts by whether the edge has written to bytes of the operands' items: in units of so many decimals, by
-- the cells of items, by their ranges, and by what operands were when they were taken.
use Rattle.std.specs.Prelude.{ℕ, ◌&&◌, if◌then◌else◌, Bool, true, false, ℤ, Option, Some, None, is_some}
use Rattle.cob_data.specs.declared.layout.Sender.{Sender}
use Rattle.cob_data.specs.declared.layout.Sender.TheVariants as sender
use Rattle.cob_program.specs.declared.act.How.{How}
use Rattle.cob_program.specs.declared.act.How.TheVariants as how
use Rattle.cob_program.specs.Sum.{Sum}
use Rattle.cob_program.specs.Values.{◌>>=◌, root_of}
use Rattle.cob_edge_parts.specs.Parts.{Amount, moved, computed, remaining, augmented}
use Rattle.diff_bounds.specs.declared.form.lin.Lin.{Lin}
use Rattle.sum_ranges.specs.declared.ranged.Ranged.{Ranged}
use Rattle.sum_ranges.specs.SumRanges.{product_range}
use Rattle.sum_forms.specs.Constants.{range_form, cell_form, item_form}
use Rattle.sum_forms.specs.SumForms.{scaled_form, sum_form}
use Rattle.transfer_ranges.specs.declared.amounts.Taken.{Taken}
use Rattle.transfer_ranges.specs.EdgeOperands.{settled}
use Rattle.diff_steps.specs.Forms.{whole_sum, added_forms, turned_if}

-- operands whose last quotient is cut
abbrev pub settled_if : Option Taken → Option Taken
settled_if common = common >>= settled

-- a quotient that stays exact has no form
abbrev pub kept_by : ℕ → Option Taken → Option Lin
kept_by f None = None
kept_by f (Some c) = if is_some c.under then None else range_form f c.top

abbrev pub taken_by : ℕ → Option Taken → Bool → Option Lin
taken_by f common true = kept_by f common
taken_by f common false = kept_by f (settled_if common)

-- ---- senders

module _ (f : ℕ) (cell : ℕ → Option ℕ) (common : Option Taken) (written : Bool) where
  abbrev pub item_by : Option ℕ → Option Lin
  item_by (Some k) = if written then kept_by f common else Some (cell_form k)
  item_by None = kept_by f common

  abbrev pub sender_by : Sender → Option Lin
  sender_by (sender.Item place) = item_by (cell place)
  sender_by x = kept_by f common

-- ---- sums

module _ (f : ℕ) (cell : ℕ → Option ℕ) (range : ℕ → Ranged) where
  abbrev pub own_by : ℕ → Option Lin
  own_by place = item_form f (cell place) (range place)

  -- the form of a sum that is read where the edge hasn't written to the items
  abbrev pub read_by : Bool → Sum → Option Lin
  read_by whole s = if whole && is_some (root_of s) then None else sum_form f cell range s

  module _ (common : Option Taken) where
    abbrev pub product_by : ℕ → Option Lin
    product_by place = settled_if common >>= λ c. range_form f (product_range (range place) c.top)

    abbrev pub multiplied_by : ℕ → Option ℤ → Option Lin
    multiplied_by place (Some k) = own_by place >>= scaled_form k
    multiplied_by place None = product_by place

    module _ (written : Bool) where
      abbrev pub operands_by : Bool → Sum → Option Lin
      operands_by whole s = if written then taken_by f common whole else read_by whole s

      abbrev pub computed_by : ℕ → Sum → How → Option Lin
      computed_by place s how.Whole = operands_by true s
      computed_by place s how.Plus = added_forms (own_by place) (operands_by false s)
      computed_by place s how.Minus = added_forms (own_by place) (turned_if true (operands_by false s))
      computed_by place s how.Times = multiplied_by place (whole_sum s)
      computed_by place s how.Under = None

      abbrev pub amount_by : ℕ → Amount → Option Lin
      amount_by place (moved x) = sender_by f cell common written x
      amount_by place (computed s h) = computed_by place s h
      amount_by place (remaining s scale) = None
      amount_by place (augmented x) = added_forms (own_by place) (sender_by f cell common written x)
