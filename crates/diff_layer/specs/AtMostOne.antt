-- What has one proof at most.
use Rattle.std.proofs.Common.{List, [], ◌∷◌, Some, None, ap}
use Rattle.std.specs.Coded.{×_prop, Unit-prop}
use Rattle.std.specs.List.{AllByRecursion, AllByRecursion-prop}
use Rattle.std.proofs.Props.{props}
use Rattle.std.proofs.Math.Logic.{∥∥₁_prop}
use Rattle.cob_data.specs.declared.layout.Layout.{Layout}
use Rattle.cob_program.specs.Act.{Act, Program}
use Rattle.cob_runs.specs.declared.action.Action.{Action}
use Rattle.cob_graph.specs.declared.homes.Home.{Home}
use Rattle.cob_edge_parts.specs.Parts.{Part, read, unread, subscript, index, divide, store, bytes_in, guard, read_count, set_count, count_down, guard_count}
use Rattle.interval_domain.specs.declared.bounds.Interval.{Interval}
use Rattle.interval_domain.specs.Known.{Known, KnownFits}
use Rattle.interval_domain.specs.Elements.{CellsFit}
use Rattle.cell_laws.specs.Sizes.{IsSmallPart}
use Rattle.cell_layer.specs.AtMostOne.{parts_prop}
use Rattle.diff_layer.specs.declared.pack.plans.PackPlan.{PackPlan}
use Rattle.diff_layer.specs.Parts.{IsOfEdge}
use Rattle.diff_layer.specs.Plans.{IsShortHome, IsPlanOf, ArePlansOf}

-- ---- cells

known_prop : (own : Interval) (c : Known) → IsProp (KnownFits own c)
known_prop own None = Unit-prop
known_prop own (Some i) = hlevel props

pub cells_prop : (owns_ : List Interval) (cs : List Known) → IsProp (CellsFit owns_ cs)
cells_prop [] [] = Unit-prop
cells_prop [] (c ∷ cs) = λ a b. absurd a
cells_prop (own ∷ owns_) [] = λ a b. absurd a
cells_prop (own ∷ owns_) (c ∷ cs) = ×_prop (known_prop own c) (cells_prop owns_ cs)

-- ---- parts

pub of_edge_prop : (p : Program) (a : Act) (x : Action) (y : Part) → IsProp (IsOfEdge p a x y)
of_edge_prop p a x (store place mode y) = hlevel props
of_edge_prop p a x (set_count n y) = ∥∥₁_prop
of_edge_prop p a x (read place) = Unit-prop
of_edge_prop p a x unread = Unit-prop
of_edge_prop p a x (subscript last k) = Unit-prop
of_edge_prop p a x (index last k count) = Unit-prop
of_edge_prop p a x (divide d) = Unit-prop
of_edge_prop p a x (bytes_in offset count) = Unit-prop
of_edge_prop p a x (guard t wanted) = Unit-prop
of_edge_prop p a x (read_count n) = Unit-prop
of_edge_prop p a x (count_down n) = Unit-prop
of_edge_prop p a x (guard_count n wanted) = Unit-prop

pub small_prop : (p : Program) (a : Act) (x : Action) (y : Part) → IsProp (IsSmallPart p a x y)
small_prop p a x y u v =
    ap (λ (t : IsSmallPart p a x y × Unit {0}). t.0) (parts_prop p a x (y ∷ []) (u, tt) (v, tt))

pub all_of_edge_prop : (p : Program) (a : Act) (x : Action) (ys : List Part) → IsProp (AllByRecursion (IsOfEdge p a x) ys)
all_of_edge_prop p a x ys = AllByRecursion-prop (IsOfEdge p a x) (of_edge_prop p a x) ys

-- ---- packs

short_prop : (l : Layout) (h : Home) → IsProp (IsShortHome l h)
short_prop l h = hlevel props

shorts_prop : (l : Layout) (hs : List Home) → IsProp (AllByRecursion (IsShortHome l) hs)
shorts_prop l hs = AllByRecursion-prop (IsShortHome l) (short_prop l) hs

plan_prop : (p : Program) (plan : PackPlan) → IsProp (IsPlanOf p plan)
plan_prop p plan = hlevel (props, shorts_prop)

pub plans_prop : (p : Program) (plans : List PackPlan) → IsProp (ArePlansOf p plans)
plans_prop p plans = AllByRecursion-prop (IsPlanOf p) (plan_prop p) plans
