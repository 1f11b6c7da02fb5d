-- Counters of PERFORMs with TIMES along the ways of a program's graph.
use Rattle.std.specs.Prelude.{◌≡◌, ◌≤◌, ℕ, suc, List, Contains, Option, Some, ℤ, pos}
use Rattle.cob_program.specs.Act.{Act, Program}
use Rattle.cob_runs.specs.declared.action.Action.TheVariants as action
use Rattle.cob_runs.specs.Files.{Choice}
use Rattle.cob_runs.specs.State.{World}
use Rattle.cob_runs.specs.Effects.{act_at}
use Rattle.cob_runs.specs.Runs.{Contents}
use Rattle.cob_graph.specs.declared.graph.Node.{Node}
use Rattle.cob_graph.specs.declared.graph.Graph.{Graph}
use Rattle.cob_graph.specs.Graphs.{IsGraph}
use Rattle.cob_graph.specs.Lookup.{node_at, edge}
use Rattle.cob_graph.specs.WellFormed.{IsWellFormed}
use Rattle.cob_graph_laws.specs.Ways.{Comes}
use Rattle.cob_edge_parts.specs.Meaning.{count_in}
use Rattle.cob_edge_parts.specs.Edges.{StandFor}

-- numbers of statements begin with 1, so that no two share a counter
abbrev pub NumbersArePositive : Program → Type 0
NumbersArePositive p = (n : ℕ) (a : Act) → act_at p n ≡ Some a → 1 ≤ n

abbrev pub IsPositiveIn : List (Option ℤ) → ℕ → Type 0
IsPositiveIn counts statement = (n : ℕ) × (count_in counts statement ≡ Some (pos (suc n)))

-- a way comes to the statement's node with an edge that counts down
pub record ComesToCount (p : Program) (g : Graph) (contents : Contents) (first : List ℕ) (choices : List Choice)
    (statement : ℕ) (w : World) : Type 0 where
  pub left : ℕ
  pub node : ℕ
  pub at : Node
  pub to : ℕ
  pub way : Comes p g contents first choices left node w
  pub stands : node_at g.nodes node ≡ Some at
  pub its : at.statement ≡ statement
  pub out : Contains g.edges (edge node action.Down to)

-- There the counter is above 0, whatever files hold, what is undefined, and how long the way is.
abbrev pub CountsArePositive : Type 0
CountsArePositive =
    (p : Program) (g : Graph) → IsWellFormed p → NumbersArePositive p → IsGraph p g → (contents : Contents)
    (first : List ℕ) (choices : List Choice) (statement : ℕ) (w : World) →
    ComesToCount p g contents first choices statement w → IsPositiveIn w.counts statement

-- So are counters that stand for the counts of the way's world.
abbrev pub CountersArePositive : Type 0
CountersArePositive =
    (p : Program) (g : Graph) → IsWellFormed p → NumbersArePositive p → IsGraph p g → (contents : Contents)
    (first : List ℕ) (choices : List Choice) (statement : ℕ) (w : World) (counters : List (Option ℤ)) →
    ComesToCount p g contents first choices statement w → StandFor w.counts counters → IsPositiveIn counters statement
