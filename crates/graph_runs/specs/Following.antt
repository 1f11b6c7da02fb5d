-- Runs of a program against what it does along its graph.
use Rattle.std.specs.Prelude.{◌≡◌, ℕ, List, ℤ}
use Rattle.cob_tree.specs.declared.fault.Kind.{Kind}
use Rattle.cob_program.specs.Act.{Program}
use Rattle.cob_runs.specs.declared.outcome.Outcome.TheVariants.{Fault}
use Rattle.cob_runs.specs.Files.{Choice}
use Rattle.cob_runs.specs.State.{World}
use Rattle.cob_runs.specs.Runs.{Contents, run}
use Rattle.cob_graph.specs.declared.graph.Graph.{Graph}
use Rattle.cob_graph_laws.specs.Ways.{Comes}
use Rattle.cob_edge_parts.specs.Edges.{StandFor}
use Rattle.dom_laws.specs.Meaning.{Storage, ReachesIn}
use Rattle.graph_runs.specs.Places.{IsOf}
use Rattle.graph_runs.specs.Sources.{IsSourceGraph}
use Rattle.graph_runs.specs.Doing.{MeetsAt, graph_runs}
use Rattle.graph_runs.specs.Flows.{flow_over}

module _ (p : Program) (g : Graph) (entry : List ℤ) (post : ℕ → List ℤ → List ℤ) where
  abbrev pub Reaches : ℕ → ℕ → Storage → Type 0
  Reaches edges node s = ReachesIn (flow_over g entry post) (graph_runs p g) edges node s

  -- Some storage with the bytes of a world, and with counters that stand for its counts, comes to the node.
  pub record IsReached (node : ℕ) (w : World) : Type 0 where
    pub edges : ℕ
    pub storage : Storage
    pub reaches : Reaches edges node storage
    pub bytes : storage.bytes ≡ w.storage
    pub counters : StandFor w.counts storage.counters

  -- a storage comes to some node of the statement that meets the fault on it
  pub record IsMet (fault : Kind) (statement : ℕ) : Type 0 where
    pub edges : ℕ
    pub node : ℕ
    pub storage : Storage
    pub reaches : Reaches edges node storage
    pub of : IsOf g node statement
    pub meets : MeetsAt p g node fault storage

-- Where a way comes to a node, a storage of its world comes there.
abbrev pub WaysAreFollowed : Type 0
WaysAreFollowed =
    (p : Program) (g : Graph) → IsSourceGraph p g → (entry : List ℤ) (post : ℕ → List ℤ → List ℤ)
    (contents : Contents) (first : List ℕ) (choices : List Choice) (k node : ℕ) (w : World) →
    Comes p g contents first choices k node w → IsReached p g entry post node w

-- Each fault of a run is met at a node of its statement by a storage that comes there.
abbrev pub FaultsAreReached : Type 0
FaultsAreReached =
    (p : Program) (g : Graph) → IsSourceGraph p g → (entry : List ℤ) (post : ℕ → List ℤ → List ℤ)
    (contents : Contents) (first : List ℕ) (choices : List Choice) (n : ℕ) (fault : Kind) (statement : ℕ) →
    (run p contents first choices n).outcome ≡ Fault fault statement → IsMet p g entry post fault statement
