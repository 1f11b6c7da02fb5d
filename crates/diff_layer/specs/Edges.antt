-- What an edge of a graph makes of matrices, if a run comes.
use Rattle.std.specs.Prelude.{ℕ, ◌+◌, ◌/◌, ◌%◌, nat_eq, if◌then◌else◌, List, ℤ, pos, Option, Some}
use Rattle.std.specs.Option.{option_map_or}
use Rattle.cob_program.specs.Values.{◌>>=◌}
use Rattle.cob_program.specs.Act.{Program}
use Rattle.cob_runs.specs.Effects.{act_at}
use Rattle.cob_graph.specs.declared.graph.Edge.{Edge}
use Rattle.cob_graph.specs.declared.graph.Graph.{Graph}
use Rattle.interval_domain.specs.Known.{Known}
use Rattle.interval_domain.specs.Elements.{Element}
use Rattle.cell_laws.specs.Layer.{left}
use Rattle.diff_bounds.specs.Matrix.{none}
use Rattle.diff_steps.specs.Packs.{Pack}
use Rattle.diff_steps.specs.Edges.{walked_packs}

-- a word of the matrix that bounds nothing, places counted row by row
abbrev pub free_word : ℕ → ℕ → ℤ
free_word size k = if nat_eq (k / (size + 1)) (k % (size + 1)) then pos 0 else none

module _ (p : Program) (g : Graph) (packs : List Pack) where
  abbrev pub edge_walked : Edge → List (List ℤ) → List Known → Option (List (List ℤ))
  edge_walked x ms cells = option_map_or (λ a. walked_packs p packs (left g x) a x.action (Some cells) ms) (act_at p (left g x)) (Some ms)

  abbrev pub packs_walked : Edge → Element → List (List ℤ) → Option (List (List ℤ))
  packs_walked x element ms = element >>= edge_walked x ms
