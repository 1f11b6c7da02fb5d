-- Packs as the code has them.
use Rattle.std.specs.Prelude.{◌≡◌, ◌≤◌, ◌^◌, List, map, length, ℤ, pos, neg_ℤ, ◌≤ℤ◌}
use Rattle.std.specs.List.{AllByRecursion}
use Rattle.cob_data.specs.declared.layout.Layout.{Layout}
use Rattle.cob_program.specs.Act.{Program}
use Rattle.cob_graph.specs.declared.homes.Home.{Home}
use Rattle.cell_steps.specs.OwnRanges.{home_range}
use Rattle.diff_steps.specs.Packs.{Pack, size_of, decimals_of, pack_decimals}
use Rattle.diff_bounds.specs.PackRows.{width_of, matrices_in}
use Rattle.pack_laws.specs.Agreeing.{AreMatrices}
use Rattle.diff_layer.specs.declared.pack.plans.PackPlan.{PackPlan}

abbrev pub plain_plan : PackPlan → Pack
plain_plan plan = plan.cells.items

abbrev pub plain_plans : List PackPlan → List Pack
plain_plans plans = map plain_plan plans

-- A cell whose own numbers have at most 18 digits, as many decimals among them.
pub record IsShortHome (l : Layout) (h : Home) : Type 0 where
  pub low : neg_ℤ (pos (10 ^ 18)) ≤ℤ (home_range l h).low
  pub high : (home_range l h).high ≤ℤ pos (10 ^ 18)
  pub decimals : decimals_of l h ≤ 18

-- A pack of a program, with its unit.
pub record IsPlanOf (p : Program) (plan : PackPlan) : Type 0 where
  pub few : size_of (plain_plan plan) ≤ 8
  pub short : AllByRecursion (IsShortHome p.layout) (plain_plan plan)
  pub unit : plan.decimals ≡ pack_decimals p.layout (plain_plan plan)

abbrev pub ArePlansOf : Program → List PackPlan → Type 0
ArePlansOf p plans = AllByRecursion (IsPlanOf p) plans

-- the matrices in a row of words
abbrev pub matrices_for : List PackPlan → List ℤ → List (List ℤ)
matrices_for plans row = matrices_in (map size_of (plain_plans plans)) row

-- the row has a matrix for each pack, and no other words
pub record IsRowFor (plans : List PackPlan) (row : List ℤ) : Type 0 where
  pub width : length row ≡ width_of (map size_of (plain_plans plans))
  pub matrices : AreMatrices (plain_plans plans) (matrices_for plans row)
