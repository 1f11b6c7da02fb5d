-- What a part makes of a pack, by what is kept behind it.
use Rattle.std.proofs.Common.{◌≡◌, ℕ, suc, Bool, true, false, if◌then◌else◌, List, ℤ, Option, Some, None, refl, sym, ap, ◌∙◌}
use Rattle.std.specs.Option.{option_map}
use Rattle.dec_num.specs.declared.types.Mode.{Mode}
use Rattle.cob_data.specs.declared.extent.Extent.{Extent}
use Rattle.cob_program.specs.Logic.{Test, numbers, texts, member, numeric, always}
use Rattle.cob_program.specs.Act.{Act, Program}
use Rattle.cob_runs.specs.declared.action.Action.{Action}
use Rattle.cob_runs.specs.Contents.{form_at}
use Rattle.cob_edge_parts.specs.Parts.{Amount, Part, read, unread, subscript, index, divide, store, bytes_in, guard, read_count, set_count, count_down, guard_count}
use Rattle.diff_bounds.specs.declared.form.lin.Lin.{Lin}
use Rattle.transfer_ranges.specs.declared.amounts.Taken.{Taken}
use Rattle.transfer_ranges.specs.declared.amounts.Receiver.{Receiver}
use Rattle.transfer_ranges.specs.declared.amounts.AmountRange.{AmountRange}
use Rattle.transfer_ranges.specs.declared.amounts.AmountRange.TheVariants as range
use Rattle.transfer_ranges.specs.Receivers.{receiver_of}
use Rattle.interval_domain.specs.Known.{Known}
use Rattle.interval_domain.specs.Elements.{Element}
use Rattle.cob_graph.specs.declared.homes.Home.TheVariants.{Item as of_item, Count as of_count}
use Rattle.cell_steps.specs.Seen.{Seen}
use Rattle.cell_steps.specs.Stores.{with_taken, taking, amount_at, behind_store}
use Rattle.cell_steps.specs.Steps.{with_cells_if}
use Rattle.cell_laws.specs.Sizes.{IsSmallPart}
use Rattle.cell_layer.specs.Latest.{Latest, ranges_of, outcome, latest_behind}
use Rattle.cell_layer.specs.Walks.{with_taken_small, step_small}
use Rattle.cell_layer.proofs.SmallEdges.{all_is_taken}
use Rattle.diff_steps.specs.Packs.{Pack, size_of, cell_of, pack_decimals, unit_of}
use Rattle.diff_steps.specs.Matrices.{bottom}
use Rattle.diff_steps.specs.Forms.{amount_form, set_form}
use Rattle.diff_steps.specs.Stores.{known_of_amount, forgotten_cells}
use Rattle.diff_steps.specs.Steps.{by_outcome, is_other, form_at_cell, stored_cell, stored_pack, lost_pack, pack_behind_store, counter_stored, guarded_pack, changed_pack}
use Rattle.diff_layer.specs.Receiving.{stored_at}
use Rattle.diff_layer.proofs.AtCell.{at_cell}
use Rattle.diff_layer.specs.Views.{taken_at}
use Rattle.diff_layer.proofs.AmountsAgree.{same_amount_form, same_set_form, same_operands}
use Rattle.diff_layer.specs.Changes.{decimal_in, cell_stored, cell_assigned, fitting_stored, store_changed, guard_changed}
use Rattle.diff_layer.specs.Parts.{plan_changed}

-- ---- a decimal is known by what it is worked out of, and nothing else is

decimal_known : (size : ℕ) (m : List ℤ) (form : Lin) (to : ℕ) (o : Option AmountRange) → known_of_amount size m form to (decimal_in (option_map ranges_of o)) ≡ known_of_amount size m form to o
decimal_known size m form to None = refl
decimal_known size m form to (Some (range.Decimal r)) = refl
decimal_known size m form to (Some (range.Quotient top under)) = refl
decimal_known size m form to (Some (range.Remainder top under scale)) = refl

decimal_stored : (size to : ℕ) (r : Receiver) (mode : Mode) (unit : ℕ) (o : Option AmountRange) (form : Option Lin) (m : List ℤ)
    → stored_at size to r mode unit (decimal_in (option_map ranges_of o)) form m ≡ stored_at size to r mode unit o form m
decimal_stored size to r mode unit None None m = refl
decimal_stored size to r mode unit (Some a) None m = refl
decimal_stored size to r mode unit None (Some form) m = refl
decimal_stored size to r mode unit (Some (range.Decimal i)) (Some form) m = refl
decimal_stored size to r mode unit (Some (range.Quotient top under)) (Some form) m = refl
decimal_stored size to r mode unit (Some (range.Remainder top under scale)) (Some form) m = refl

module _ (p : Program) (a : Act) (x : Action) where
  taken_cells : (s : Seen) → s.cells ≡ (with_taken p a x s).cells
  taken_cells s = go s.written
    where
      go : (b : Bool) → s.cells ≡ (if b then s else taking p a x s).cells
      go true = refl
      go false = refl

  -- ---- stores

  module _ (t : Seen) (known : List Known) (common : Option Taken) (cells : known ≡ t.cells) (same : common ≡ t.common) (wrote : List Extent) (pack : Pack) where
    cell_is : (place : ℕ) (mode : Mode) (y : Amount) (o : Option ℕ) (m : List ℤ) →
        cell_stored (size_of pack) (receiver_of (form_at p.layout place)) mode (unit_of p.layout pack (of_item place)) (decimal_in (option_map ranges_of (amount_at p a x t place y)))
        (amount_form p pack (taken_at known common) wrote place y) o m
        ≡ stored_cell p a x t wrote place mode y pack o m
    cell_is place mode y None m = refl
    cell_is place mode y (Some k) m =
        decimal_stored (size_of pack) (suc k) (receiver_of (form_at p.layout place)) mode (unit_of p.layout pack (of_item place)) (amount_at p a x t place y)
        (amount_form p pack (taken_at known common) wrote place y) m
        ∙ (at_cell p a x t place mode y pack (suc k) (amount_form p pack (taken_at known common) wrote place y) m
        ∙ ap (λ f. form_at_cell p a x t place mode y pack (suc k) f m) (same_amount_form p pack t known common wrote place y cells same))

    fitting_is : (place : ℕ) (mode : Mode) (y : Amount) (m : List ℤ) →
        fitting_stored p known common (decimal_in (option_map ranges_of (amount_at p a x t place y))) wrote pack (size_of pack) (pack_decimals p.layout pack) place mode y m
        ≡ stored_pack p a x t wrote place mode y pack m
    fitting_is place mode y m =
        λ i. if same_operands p pack t known common wrote y cells i
        then forgotten_cells (size_of pack) (is_other p a x place) 1 pack (cell_is place mode y (cell_of pack (of_item place)) m i)
        else bottom (size_of pack)

    store_is : (latest : Latest) (place : ℕ) (mode : Mode) (y : Amount) (m : List ℤ) → latest ≡ outcome p a x t place mode y →
        store_changed p known common latest wrote pack (size_of pack) (pack_decimals p.layout pack) place mode y m ≡ pack_behind_store p a x t wrote place mode y pack m
    store_is latest place mode y m e =
        ap (λ (l : Latest). store_changed p known common l wrote pack (size_of pack) (pack_decimals p.layout pack) place mode y m) e
        ∙ ap (λ ms. by_outcome (outcome p a x t place mode y).may_fail (outcome p a x t place mode y).may_fit ms (lost_pack p a x place pack m) m) (fitting_is place mode y m)

  -- ---- other parts

  counter_is : (size : ℕ) (form : Option Lin) (statement : ℕ) (pack : Pack) (o : Option ℕ) (m : List ℤ) → cell_assigned (size_of pack) form o m ≡ counter_stored p a x statement form pack o m
  counter_is size form statement pack None m = refl
  counter_is size form statement pack (Some k) m = refl

  guard_is : (s : Seen) (common : Option Taken) (t : Test) (wanted : Bool) (pack : Pack) (m : List ℤ) →
      guard_changed p s.cells common pack (size_of pack) (pack_decimals p.layout pack) t wanted m ≡ guarded_pack p a x s t wanted pack m
  guard_is s common (numbers b r c) wanted pack m = refl
  guard_is s common (texts b r c) wanted pack m = refl
  guard_is s common (member place ps) wanted pack m = refl
  guard_is s common (numeric place) wanted pack m = refl
  guard_is s common always wanted pack m = refl

  -- ---- what is kept behind a part

  -- what is kept behind a part that takes operands
  abbrev pub IsKept : Part → Seen → Option Taken → Latest → Type 0
  IsKept (store place mode y) s common latest = (common ≡ (with_taken p a x s).common) × (latest ≡ outcome p a x (with_taken p a x s) place mode y)
  IsKept (set_count n y) s common latest = common ≡ (with_taken p a x s).common
  IsKept _ s common latest = Unit {0}

  pub part_is : (y : Part) (s : Seen) (common : Option Taken) (latest : Latest) (wrote : List Extent) (pack : Pack) (m : List ℤ) → IsKept y s common latest →
      plan_changed p s.cells common latest wrote y pack m ≡ changed_pack p a x y s wrote pack m
  part_is (read place) s common latest wrote pack m kept = refl
  part_is unread s common latest wrote pack m kept = refl
  part_is (subscript last k) s common latest wrote pack m kept = refl
  part_is (index last k count) s common latest wrote pack m kept = refl
  part_is (divide d) s common latest wrote pack m kept = refl
  part_is (store place mode y) s common latest wrote pack m kept = store_is (with_taken p a x s) s.cells common (taken_cells s) kept.0 wrote pack latest place mode y m kept.1
  part_is (bytes_in offset count) s common latest wrote pack m kept = refl
  part_is (guard t wanted) s common latest wrote pack m kept = guard_is s common t wanted pack m
  part_is (read_count n) s common latest wrote pack m kept = refl
  part_is (set_count n y) s common latest wrote pack m kept =
      ap (λ f. cell_assigned (size_of pack) f (cell_of pack (of_count n)) m) (same_set_form p pack (with_taken p a x s) s.cells common wrote y kept)
      ∙ counter_is (size_of pack) (set_form p pack (with_taken p a x s) wrote y) n pack (cell_of pack (of_count n)) m
  part_is (count_down n) s common latest wrote pack m kept = counter_is (size_of pack) _ n pack (cell_of pack (of_count n)) m
  part_is (guard_count n wanted) s common latest wrote pack m kept = refl

  -- ---- behind a part that is passed

  pub stored_common : (t u : Seen) (fails : Bool) (o : Element) → behind_store t fails o ≡ Some u → u.common ≡ t.common
  stored_common t u fails None e = absurd cc
  stored_common t u fails (Some cs) e = sym (ap common_of e)
    where
      common_of : Option Seen → Option Taken
      common_of None = None
      common_of (Some v) = v.common

  pub counted_common : (t u : Seen) (o : Option (List Known)) → with_cells_if t o ≡ Some u → u.common ≡ t.common
  counted_common t u None e = absurd cc
  counted_common t u (Some cs) e = sym (ap common_of e)
    where
      common_of : Option Seen → Option Taken
      common_of None = None
      common_of (Some v) = v.common

  pub kept_behind : (y : Part) (s t : Seen) (latest before : Latest) → IsSmallPart p a x y → step_small p a x y s ≡ Some t → latest ≡ latest_behind p a x y s before →
      IsKept y s t.common latest
  kept_behind (read place) s t latest before small e told = tt
  kept_behind unread s t latest before small e told = tt
  kept_behind (subscript last k) s t latest before small e told = tt
  kept_behind (index last k count) s t latest before small e told = tt
  kept_behind (divide d) s t latest before small e told = tt
  kept_behind (store place mode y) s t latest before small e told =
      (stored_common (with_taken_small p a x s) t _ _ e ∙ ap (λ (u : Seen). u.common) (all_is_taken p a x small.sender s), told)
  kept_behind (bytes_in offset count) s t latest before small e told = tt
  kept_behind (guard test wanted) s t latest before small e told = tt
  kept_behind (read_count n) s t latest before small e told = tt
  kept_behind (set_count n y) s t latest before small e told =
      counted_common (with_taken_small p a x s) t _ e ∙ ap (λ (u : Seen). u.common) (all_is_taken p a x small.1 s)
  kept_behind (count_down n) s t latest before small e told = tt
  kept_behind (guard_count n wanted) s t latest before small e told = tt
