-- Packs of a program's cells as they are walked with.
use Rattle.std.specs.Prelude.{◌≡◌, ℕ, List, map, length}
use Rattle.std.specs.List.{AllByRecursion}
use Rattle.cob_data.specs.declared.layout.Layout.{Layout}
use Rattle.cob_graph.specs.declared.homes.Home.{Home}
use Rattle.diff_bounds.specs.declared.Pack as declared
use Rattle.diff_steps.specs.Packs.{pack_decimals}
use Rattle.diff_layer.specs.declared.pack.plans.PackPlan.{PackPlan}
use Rattle.diff_layer.specs.Plans.{plain_plan, plain_plans}
use Rattle.pack_laws.specs.Packs.{pack_in, packs_in}

-- ---- plans

abbrev pub HasUnit : Layout → PackPlan → Type 0
HasUnit l plan = plan.decimals ≡ pack_decimals l (plain_plan plan)

abbrev pub HaveUnits : Layout → List PackPlan → Type 0
HaveUnits l plans = AllByRecursion (HasUnit l) plans

-- the pack's cells, and its unit
pub record IsPlanFor (l : Layout) (homes : List Home) (pack : declared.Pack) (plan : PackPlan) : Type 0 where
  pub cells : plain_plan plan ≡ pack_in homes pack.cells.items
  pub unit : HasUnit l plan

pub record ArePlansFor (l : Layout) (homes : List Home) (all : List declared.Pack) (plans : List PackPlan) : Type 0 where
  pub packs : plain_plans plans ≡ packs_in homes all
  pub units : HaveUnits l plans

abbrev pub sizes_in : List declared.Pack → List ℕ
sizes_in packs = map (λ pack. length pack.cells.items) packs
