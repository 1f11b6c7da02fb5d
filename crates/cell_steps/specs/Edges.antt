-- What an edge makes of what is known at its source, and the faults that this shows not to be met on it.
use Rattle.std.specs.Prelude.{ℕ, ◌&&◌, not, if◌then◌else◌, Bool, List, [], ◌∷◌, Option, Some, None}
use Rattle.cob_tree.specs.declared.fault.Kind.{Kind}
use Rattle.cob_program.specs.Values.{◌>>=◌}
use Rattle.cob_program.specs.Act.{Act, Program}
use Rattle.cob_runs.specs.declared.action.Action.{Action}
use Rattle.cob_edge_parts.specs.Parts.{Part, parts_of}
use Rattle.interval_domain.specs.Known.{Known}
use Rattle.interval_domain.specs.Elements.{Element}
use Rattle.cell_steps.specs.Seen.{Seen, beginning}
use Rattle.cell_steps.specs.Stores.{handled}
use Rattle.cell_steps.specs.Steps.{step}
use Rattle.cell_steps.specs.Clearing.{clears_parts}

module _ (p : Program) (a : Act) (x : Action) where
  -- the parts in turn
  abbrev pub steps : List Part → Seen → Option Seen
  steps [] s = Some s
  steps (y ∷ ys) s = step p a x y s >>= λ t. steps ys t

  -- An edge of size errors isn't taken where no receiver may keep its value.
  abbrev pub finished : Option Seen → Element
  finished None = None
  finished (Some s) = if handled p a x && not s.any_fail then None else Some s.cells

module _ (p : Program) (statement : ℕ) (a : Act) (x : Action) where
  abbrev pub post_cells : List Known → Element
  post_cells cells = finished p a x (steps p a x (parts_of p statement a x) (beginning cells))

  abbrev pub clears_edge : List Known → Kind → Bool
  clears_edge cells fault = clears_parts p a x (parts_of p statement a x) (beginning cells) fault
