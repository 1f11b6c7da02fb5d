-- What parts make of the matrix of a pack of so many cells, by what is known of cells before them, by what operands were when
-- they were taken, and by what the latest store may do.
use Rattle.std.specs.Prelude.{ℕ, suc, ◌-◌, ◌^◌, if◌then◌else◌, Bool, List, [], ℤ, Option, Some, None}
use Rattle.dec_num.specs.declared.types.Mode.{Mode}
use Rattle.cob_data.specs.declared.extent.Extent.{Extent}
use Rattle.cob_program.specs.Act.{Program}
use Rattle.cob_program.specs.Logic.{Test, numbers}
use Rattle.cob_runs.specs.Contents.{form_at}
use Rattle.cob_edge_parts.specs.Parts.{Amount, Part, store, bytes_in, guard, set_count, count_down}
use Rattle.diff_bounds.specs.declared.form.lin.Lin.{Lin}
use Rattle.transfer_ranges.specs.declared.amounts.Taken.{Taken}
use Rattle.transfer_ranges.specs.declared.amounts.Receiver.{Receiver}
use Rattle.transfer_ranges.specs.declared.amounts.AmountRange.{AmountRange}
use Rattle.transfer_ranges.specs.declared.amounts.AmountRange.TheVariants as range
use Rattle.transfer_ranges.specs.Receivers.{receiver_of}
use Rattle.sum_ranges.specs.declared.ranged.Ranged.{Ranged}
use Rattle.interval_domain.specs.Known.{Known}
use Rattle.cob_graph.specs.declared.homes.Home.TheVariants.{Item as of_item, Count as of_count}
use Rattle.cell_steps.specs.Cells.{bytes_from}
use Rattle.cell_steps.specs.Stores.{range_at}
use Rattle.cell_layer.specs.Latest.{Latest}
use Rattle.diff_steps.specs.Packs.{Pack, cell_of, decimals_of}
use Rattle.diff_steps.specs.Matrices.{bottom}
use Rattle.diff_steps.specs.Forms.{amount_form, set_form, lowered_form, has_operands, cell_at}
use Rattle.diff_steps.specs.Stores.{assigned_or_forgotten, forgotten_cells}
use Rattle.diff_steps.specs.Guards.{related}
use Rattle.diff_steps.specs.Steps.{by_outcome}
use Rattle.diff_layer.specs.Receiving.{stored_at}
use Rattle.diff_layer.specs.Views.{taken_at}
use Rattle.diff_layer.specs.declared.pack.gone.Gone.TheVariants as gone
use Rattle.diff_layer.specs.Gone.{is_gone}

-- ---- cells

abbrev pub decimal_unless : Ranged → Option Ranged → Option AmountRange
decimal_unless top None = Some (range.Decimal top)
decimal_unless top (Some under) = None

-- the range of an amount that is a decimal, by what it is worked out of
abbrev pub decimal_in : Option Taken → Option AmountRange
decimal_in None = None
decimal_in (Some t) = decimal_unless t.top t.under

-- the receiver's cell, where it has one
abbrev pub cell_stored : ℕ → Receiver → Mode → ℕ → Option AmountRange → Option Lin → Option ℕ → List ℤ → List ℤ
cell_stored size r mode unit amount form None m = m
cell_stored size r mode unit amount form (Some k) m = stored_at size (suc k) r mode unit amount form m

abbrev pub cell_assigned : ℕ → Option Lin → Option ℕ → List ℤ → List ℤ
cell_assigned size form None m = m
cell_assigned size form (Some k) m = assigned_or_forgotten size (suc k) form m

-- ---- parts

module _ (p : Program) (known : List Known) (common : Option Taken) where
  abbrev pub fitting_stored : Option AmountRange → List Extent → Pack → ℕ → ℕ → ℕ → Mode → Amount → List ℤ → List ℤ
  fitting_stored amount wrote pack size decimals place mode y m =
      if has_operands p (taken_at known common) wrote y
      then forgotten_cells size (is_gone p.layout (gone.Others place)) 1 pack
      (cell_stored size (receiver_of (form_at p.layout place)) mode (10 ^ (decimals - decimals_of p.layout (of_item place))) amount
      (amount_form p pack (taken_at known common) wrote place y) (cell_of pack (of_item place)) m)
      else bottom size

  abbrev pub store_changed : Latest → List Extent → Pack → ℕ → ℕ → ℕ → Mode → Amount → List ℤ → List ℤ
  store_changed latest wrote pack size decimals place mode y m =
      by_outcome latest.may_fail latest.may_fit (fitting_stored (decimal_in latest.result) wrote pack size decimals place mode y m)
      (forgotten_cells size (is_gone p.layout (gone.Lost place)) 1 pack m) m

  abbrev pub guard_changed : Pack → ℕ → ℕ → Test → Bool → List ℤ → List ℤ
  guard_changed pack size decimals (numbers b r c) wanted m =
      related decimals (cell_at p pack (taken_at known common) []) (range_at p known) size b r c wanted m
  guard_changed pack size decimals t wanted m = m

  -- the matrix behind a part, in units of so many decimals
  abbrev pub part_changed : Latest → List Extent → Pack → ℕ → ℕ → Part → List ℤ → List ℤ
  part_changed latest wrote pack size decimals (store place mode y) m = store_changed latest wrote pack size decimals place mode y m
  part_changed latest wrote pack size decimals (bytes_in offset count) m =
      forgotten_cells size (is_gone p.layout (gone.Bytes (bytes_from offset count))) 1 pack m
  part_changed latest wrote pack size decimals (guard t wanted) m = guard_changed pack size decimals t wanted m
  part_changed latest wrote pack size decimals (set_count statement y) m =
      cell_assigned size (set_form p pack (taken_at known common) wrote y) (cell_of pack (of_count statement)) m
  part_changed latest wrote pack size decimals (count_down statement) m =
      cell_assigned size (lowered_form p pack (taken_at known common) wrote statement) (cell_of pack (of_count statement)) m
  part_changed latest wrote pack size decimals _ m = m
