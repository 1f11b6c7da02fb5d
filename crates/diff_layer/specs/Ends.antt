-- The ends of what a receiver gets, in the matrices of packs.
use Rattle.std.specs.Prelude.{ℕ, Bool, true, false, List, ℤ, Option, None}
use Rattle.dec_num.specs.declared.types.Mode.{Mode}
use Rattle.cob_data.specs.declared.extent.Extent.{Extent}
use Rattle.cob_program.specs.Act.{Program}
use Rattle.cob_edge_parts.specs.Parts.{Part, store, set_count, count_down}
use Rattle.diff_bounds.specs.declared.form.lin.Lin.{Lin}
use Rattle.transfer_ranges.specs.declared.amounts.Taken.{Taken}
use Rattle.transfer_ranges.specs.declared.amounts.Receiver.{Receiver}
use Rattle.interval_domain.specs.Known.{Known}
use Rattle.diff_steps.specs.Packs.{Pack, size_of, pack_decimals}
use Rattle.diff_steps.specs.Forms.{amount_form, set_form, lowered_form}
use Rattle.diff_steps.specs.Clearing.{high_fits, low_fits, some_pack}
use Rattle.diff_layer.specs.Receiving.{upper_if, upper_negated_if}
use Rattle.diff_layer.specs.Views.{taken_at}

-- whether the matrix of a pack of so many cells shows that the low end fits, or the high one
abbrev pub end_in_pack : ℕ → ℕ → List ℤ → Option Lin → Mode → Receiver → Bool → Bool
end_in_pack size decimals m form mode r true = low_fits mode r decimals (upper_negated_if size m form)
end_in_pack size decimals m form mode r false = high_fits mode r decimals (upper_if size m form)

module _ (p : Program) (known : List Known) (common : Option Taken) (wrote : List Extent) where
  -- the form of what the receiver of a part gets
  abbrev pub part_form : Part → Pack → Option Lin
  part_form (store place mode y) pack = amount_form p pack (taken_at known common) wrote place y
  part_form (set_count statement y) pack = set_form p pack (taken_at known common) wrote y
  part_form (count_down statement) pack = lowered_form p pack (taken_at known common) wrote statement
  part_form y pack = None

  abbrev pub shows_end : Part → Mode → Receiver → Bool → Pack → List ℤ → Bool
  shows_end y mode r low pack m = end_in_pack (size_of pack) (pack_decimals p.layout pack) m (part_form y pack) mode r low

  abbrev pub some_end : Part → Mode → Receiver → Bool → List Pack → List (List ℤ) → Bool
  some_end y mode r low packs ms = some_pack (shows_end y mode r low) packs ms
