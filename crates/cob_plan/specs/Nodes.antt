-- A graph's nodes, read one after another.
use Rattle.std.specs.Prelude.{◌≡◌, ◌==◌, ℕ, suc, if◌then◌else◌, List, [], ◌∷◌, length, map, slice_get, Some}
use Rattle.std.specs.List.{All}
use Rattle.cob_runs.specs.declared.action.Action.{Action}
use Rattle.cob_runs.specs.declared.action.Action.TheVariants as action
use Rattle.cob_graph.specs.declared.graph.Edge.{Edge}
use Rattle.cob_graph.specs.declared.graph.Graph.{Graph}
use Rattle.cob_plan.specs.declared.node.PlanNode.{PlanNode}
use Rattle.cob_graph.specs.Nodes.{Noded}
use Rattle.cob_graph.specs.Graphs.{as_node, edges_of}
use Rattle.cob_plan.specs.Plan.{op_edges, IsPlanNode}

-- an edge without where it comes from
abbrev pub way : Edge → Action × ℕ
way e = (e.action, e.to)

-- All of these edges leave a node.
abbrev pub Leave : ℕ → List Edge → Type 0
Leave n edges = All (λ e. e.from ≡ n) edges

-- how many edges at the front leave a node
abbrev pub at_front : ℕ → List Edge → ℕ
at_front n [] = 0
at_front n (e ∷ es) = if e.from == n then suc (at_front n es) else 0

-- ---- which edges a node has

-- an action whose edge is its node's only one
abbrev pub IsAlone : Action → Type 0
IsAlone action.Skip = Unit {0}
IsAlone action.Assign = Unit {0}
IsAlone action.Show = Unit {0}
IsAlone action.SetCount = Unit {0}
IsAlone action.Down = Unit {0}
IsAlone action.Done = Unit {0}
IsAlone _ = ⊥

-- the actions of a node's two edges, in their order
abbrev pub ArePair : Action → Action → Type 0
ArePair action.Done a = a ≡ action.Size
ArePair (action.True k) a = a ≡ action.False k
ArePair (action.Open k) a = a ≡ action.Bad k
ArePair (action.Close k) a = a ≡ action.Bad k
ArePair action.Write a = a ≡ action.Bad 0
ArePair _ a = ⊥

-- the actions of a node's three edges, in their order
pub record AreThree (a b c : Action) : Type 0 where
  pub first : a ≡ action.Take
  pub second : b ≡ action.AtEnd
  pub third : c ≡ action.Bad 0

-- the ways on from one node
abbrev pub AreOfOne : List (Action × ℕ) → Type 0
AreOfOne [] = Unit {0}
AreOfOne (x ∷ []) = IsAlone x.0
AreOfOne (x ∷ y ∷ []) = ArePair x.0 y.0
AreOfOne (x ∷ y ∷ z ∷ []) = AreThree x.0 y.0 z.0
AreOfOne (x ∷ y ∷ z ∷ w ∷ ws) = ⊥

-- ---- all nodes

-- The nodes and edges of a graph are those of these.
pub record IsLaidOut (g : Graph) (ns : List Noded) : Type 0 where
  pub nodes : g.nodes ≡ map as_node ns
  pub edges : g.edges ≡ edges_of 1 ns
  pub each : (i : ℕ) (x : Noded) → slice_get ns i ≡ Some x → AreOfOne x.out

-- a plan's node is this node of the graph
pub record IsNoded (x : Noded) (s : PlanNode) : Type 0 where
  pub statement : s.statement ≡ x.statement
  pub starts : s.starts ≡ x.starts
  pub edges : op_edges s.op ≡ x.out

-- each of a plan's nodes is the one at its place
pub record AreNoded (ns : List Noded) (nodes : List PlanNode) : Type 0 where
  pub each : (i : ℕ) (s : PlanNode) → slice_get nodes i ≡ Some s →
      (x : Noded) × (slice_get ns i ≡ Some x) × IsNoded x s

-- A plan has so many nodes, and they are the first of the graph.
pub record AreFirst (g : Graph) (count : ℕ) (nodes : List PlanNode) : Type 0 where
  pub each : (i : ℕ) (s : PlanNode) → slice_get nodes i ≡ Some s → IsPlanNode g (suc i) s
  pub all : length nodes ≡ count
