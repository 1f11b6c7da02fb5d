-- What of a part the changes of packs ask, and what it makes of a pack.
use Rattle.std.specs.Prelude.{◌≡◌, ℕ, Bool, true, List, ℤ, Option, Some, IfSome}
use Rattle.cob_data.specs.declared.extent.Extent.{Extent}
use Rattle.cob_data.specs.declared.layout.Layout.{Layout}
use Rattle.cob_program.specs.Act.{Act, Program}
use Rattle.cob_program.specs.Bounds.{is_small}
use Rattle.cob_runs.specs.declared.action.Action.{Action}
use Rattle.cob_calc.specs.Contents.{bound_at}
use Rattle.cob_edge_parts.specs.Parts.{Amount, Part, store, guard, set_count, moved}
use Rattle.transfer_ranges.specs.Small.{is_small_test}
use Rattle.transfer_ranges.specs.declared.amounts.Taken.{Taken}
use Rattle.transfer_ranges.specs.SmallAmounts.{is_small_amount}
use Rattle.transfer_ranges.specs.Working.{CanWork}
use Rattle.interval_domain.specs.Known.{Known}
use Rattle.cell_steps.specs.Agreeing.{of_operands}
use Rattle.transfer_ranges.specs.EdgeOperands.{edge_amount}
use Rattle.cell_steps.specs.Stores.{range_at}
use Rattle.cell_layer.specs.Latest.{Latest}
use Rattle.diff_steps.specs.Packs.{Pack, size_of, pack_decimals}
use Rattle.diff_layer.specs.Sizes.{HasSmallTop}
use Rattle.diff_layer.specs.PackWriting.{sender_items, amount_items, are_written}
use Rattle.diff_layer.specs.Changes.{part_changed}

-- ---- operands

-- The operands of a store are those of its edge, and can be worked with.
pub record IsStoreOf (p : Program) (a : Act) (x : Action) (y : Amount) : Type 0 where
  pub operands : ∥ edge_amount a x ≡ Some (of_operands y) ∥₁
  pub small : is_small_amount (bound_at p.layout) y ≡ true

abbrev pub IsOfEdge : Program → Act → Action → Part → Type 0
IsOfEdge p a x (store place mode y) = IsStoreOf p a x y
IsOfEdge p a x (set_count n y) = ∥ edge_amount a x ≡ Some (moved y) ∥₁
IsOfEdge p a x _ = Unit {0}

-- Whether the edge has written to bytes of the items that a part's operands are read of.
abbrev pub IsWrittenTo : Layout → List Extent → Bool → Part → Type 0
IsWrittenTo l wrote written (store place mode y) = written ≡ are_written l wrote (amount_items y)
IsWrittenTo l wrote written (set_count n y) = written ≡ are_written l wrote (sender_items y)
IsWrittenTo l wrote written _ = Unit {0}

-- ---- what can be worked out, by what is known of cells before the part and by what operands were when they were taken

pub record CanStore (p : Program) (known : List Known) (common : Option Taken) (place : ℕ) (y : Amount) : Type 0 where
  pub own : is_small (bound_at p.layout place) ≡ true
  pub small : is_small_amount (bound_at p.layout) y ≡ true
  pub top : IfSome common HasSmallTop
  pub work : IfSome common (CanWork y (range_at p known place))

abbrev pub CanChange : Program → List Known → Option Taken → Part → Type 0
CanChange p known common (store place mode y) = CanStore p known common place y
CanChange p known common (set_count n y) = IfSome common HasSmallTop
CanChange p known common (guard t wanted) = is_small_test (bound_at p.layout) p.layout t ≡ true
CanChange p known common _ = Unit {0}

-- ---- a pack

abbrev pub plan_changed : Program → List Known → Option Taken → Latest → List Extent → Part → Pack → List ℤ → List ℤ
plan_changed p known common latest wrote y pack m =
    part_changed p known common latest wrote pack (size_of pack) (pack_decimals p.layout pack) y m
