-- Matrices that stay as they are where they are lowered to what is known of their cells, and closed.
use Rattle.std.specs.Prelude.{◌≡◌, List, [], ◌∷◌, ℤ, Some}
use Rattle.cob_program.specs.Act.{Program}
use Rattle.cob_edge_parts.specs.Parts.{Part, store, bytes_in, guard, set_count, count_down}
use Rattle.interval_domain.specs.Known.{Known}
use Rattle.cob_graph.specs.declared.homes.Home.{Home}
use Rattle.cob_graph.specs.Homes.{homes_of}
use Rattle.cell_steps.specs.Storages.{known_of}
use Rattle.diff_steps.specs.Packs.{Pack}
use Rattle.diff_steps.specs.Matrices.{put_closed}
use Rattle.diff_layer.specs.declared.pack.plans.PackPlan.{PackPlan}
use Rattle.diff_layer.specs.Plans.{plain_plans, matrices_for, IsRowFor}

abbrev pub IsClosedBy : Program → List Known → Pack → List ℤ → Type 0
IsClosedBy p known pack m = put_closed p.layout (homes_of p) known pack m ≡ Some m

abbrev pub AreClosedBy : Program → List Known → List Pack → List (List ℤ) → Type 0
AreClosedBy p known [] [] = Unit {0}
AreClosedBy p known (pack ∷ packs) (m ∷ ms) = IsClosedBy p known pack m × AreClosedBy p known packs ms
AreClosedBy p known _ _ = ⊥

pub record IsClosedRow (p : Program) (known : List Known) (plans : List PackPlan) (row : List ℤ) : Type 0 where
  pub matrices : IsRowFor plans row
  pub closed : AreClosedBy p known (plain_plans plans) (matrices_for plans row)

-- two rows say the same of a cell
abbrev pub IsKnownAlike : Program → List Known → List Known → Home → Type 0
IsKnownAlike p before known h = known_of (homes_of p) before h ≡ known_of (homes_of p) known h

-- The part changes no matrix.
abbrev pub IsIdle : Part → Type 0
IsIdle (store place mode y) = ⊥
IsIdle (bytes_in offset count) = ⊥
IsIdle (guard t wanted) = ⊥
IsIdle (set_count n y) = ⊥
IsIdle (count_down n) = ⊥
IsIdle _ = Unit {0}
