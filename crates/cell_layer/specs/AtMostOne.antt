-- What has one proof at most: that an edge's parts are small.
use Rattle.std.proofs.Common.{ℕ, List}
use Rattle.std.specs.Coded.{Unit-prop}
use Rattle.std.specs.List.{AllByRecursion, AllByRecursion-prop}
use Rattle.std.proofs.Props.{props}
use Rattle.cob_program.specs.declared.act.How.TheVariants as how
use Rattle.cob_program.specs.Act.{Act, Program}
use Rattle.cob_runs.specs.declared.action.Action.{Action}
use Rattle.cob_edge_parts.specs.Parts.{Amount, moved, computed, remaining, augmented, Part, read, unread, subscript, index, divide, store, bytes_in, guard, read_count, set_count, count_down, guard_count}
use Rattle.sum_ranges.specs.declared.ranged.Ranged.{Ranged}
use Rattle.transfer_ranges.specs.declared.amounts.AmountRange.{AmountRange}
use Rattle.transfer_ranges.specs.declared.amounts.AmountRange.TheVariants as range
use Rattle.transfer_ranges.specs.declared.amounts.Taken.{Taken}
use Rattle.transfer_ranges.specs.Sizes.{IsSmallAmount}
use Rattle.transfer_ranges.specs.Working.{CanGive, CanWork}
use Rattle.cell_laws.specs.Sizes.{IsSmallStore, IsSmallPart}

amount_prop : (r : AmountRange) → IsProp (IsSmallAmount r)
amount_prop (range.Decimal r) = hlevel props
amount_prop (range.Quotient top under) = hlevel props
amount_prop (range.Remainder top under scale) = hlevel props

give_prop : (y : Amount) (own : Ranged) (t : Taken) → IsProp (CanGive y own t)
give_prop (moved x) own t = Unit-prop
give_prop (computed s how.Whole) own t = Unit-prop
give_prop (computed s how.Plus) own t = hlevel props
give_prop (computed s how.Minus) own t = hlevel props
give_prop (computed s how.Times) own t = hlevel props
give_prop (computed s how.Under) own t = Unit-prop
give_prop (remaining s scale) own t = Unit-prop
give_prop (augmented x) own t = hlevel props

work_prop : (y : Amount) (own : Ranged) (t : Taken) → IsProp (CanWork y own t)
work_prop y own t = hlevel (props, give_prop)

module _ (p : Program) (a : Act) (x : Action) where
  store_prop : (place : ℕ) (y : Amount) → IsProp (IsSmallStore p a x place y)
  store_prop place y = hlevel (props, work_prop, amount_prop)

  part_prop : (y : Part) → IsProp (IsSmallPart p a x y)
  part_prop (read place) = Unit-prop
  part_prop unread = Unit-prop
  part_prop (subscript last k) = Unit-prop
  part_prop (index last k count) = hlevel props
  part_prop (divide d) = hlevel props
  part_prop (store place mode y) = store_prop place y
  part_prop (bytes_in offset count) = hlevel props
  part_prop (guard t wanted) = hlevel props
  part_prop (read_count n) = Unit-prop
  part_prop (set_count n y) = hlevel props
  part_prop (count_down n) = Unit-prop
  part_prop (guard_count n wanted) = Unit-prop

  pub parts_prop : (ps : List Part) → IsProp (AllByRecursion (IsSmallPart p a x) ps)
  parts_prop ps = AllByRecursion-prop (IsSmallPart p a x) part_prop ps
