-- A program's graph as the interpreter keeps it: what each node does, and where it leads.
use Rattle.std.specs.Prelude.{◌≡◌, ℕ, suc, List, [], ◌∷◌, length, slice_get, Contains, Option, Some, None}
use Rattle.std.specs.List.{AllByRecursion}
use Rattle.cob_program.specs.Act.{Program}
use Rattle.cob_program.specs.ActView.{plain_act}
use Rattle.cob_runs.specs.declared.action.Action.{Action}
use Rattle.cob_runs.specs.declared.action.Action.TheVariants as action
use Rattle.cob_runs.specs.Effects.{act_at, tests_in_act}
use Rattle.cob_graph.specs.declared.graph.Node.{Node}
use Rattle.cob_graph.specs.declared.graph.Graph.{Graph}
use Rattle.cob_graph.specs.Lookup.{node_at, edge}
use Rattle.cob_calc.specs.Comparing.{CanTest}
use Rattle.cob_world.specs.Doing.{CanDoAct}
use Rattle.cob_plan.specs.declared.node.Op.{Op}
use Rattle.cob_plan.specs.declared.node.Op.TheVariants as op
use Rattle.cob_plan.specs.declared.node.PlanNode.{PlanNode}
use Rattle.cob_plan.specs.declared.statement.Statement.{Statement}
use Rattle.cob_plan.specs.Listing.{plain_tests}

-- the ways on from a node
abbrev pub compute_edges : ℕ → Option ℕ → List (Action × ℕ)
compute_edges fine None = (action.Done, fine) ∷ []
compute_edges fine (Some size) = (action.Done, fine) ∷ (action.Size, size) ∷ []

abbrev pub op_edges : Op → List (Action × ℕ)
op_edges (op.Skip to) = (action.Skip, to) ∷ []
op_edges (op.Assign to) = (action.Assign, to) ∷ []
op_edges (op.Show to) = (action.Show, to) ∷ []
op_edges (op.SetCount to) = (action.SetCount, to) ∷ []
op_edges (op.CountDown to) = (action.Down, to) ∷ []
op_edges (op.Compute fine size) = compute_edges fine size
op_edges (op.Test k held other) = (action.True k, held) ∷ (action.False k, other) ∷ []
op_edges (op.Open k fine bad) = (action.Open k, fine) ∷ (action.Bad k, bad) ∷ []
op_edges (op.Close k fine bad) = (action.Close k, fine) ∷ (action.Bad k, bad) ∷ []
op_edges (op.Read found end bad) = (action.Take, found) ∷ (action.AtEnd, end) ∷ (action.Bad 0, bad) ∷ []
op_edges (op.Write fine bad) = (action.Write, fine) ∷ (action.Bad 0, bad) ∷ []
op_edges op.Final = []

-- A plan's node is the graph's node with a number, and leads where that node's edges lead.
pub record IsPlanNode (g : Graph) (n : ℕ) (s : PlanNode) : Type 0 where
  pub node : Node
  pub stands : node_at g.nodes n ≡ Some node
  pub statement : s.statement ≡ node.statement
  pub starts : s.starts ≡ node.starts
  pub edges : (a : Action) (m : ℕ) → Contains (op_edges s.op) (a, m) → Contains g.edges (edge n a m)

-- A plan's nodes are those of the graph, in their order.
pub record ArePlanNodes (g : Graph) (nodes : List PlanNode) : Type 0 where
  pub each : (i : ℕ) (s : PlanNode) → slice_get nodes i ≡ Some s → IsPlanNode g (suc i) s
  pub all : length nodes ≡ length g.nodes

-- A plan's statement is the program's statement with its number; it can be done, and its simple conditions stand in the
-- order of its nodes.
pub record IsStatement (p : Program) (s : Statement) : Type 0 where
  pub its : act_at p s.number ≡ Some (plain_act s.act.now)
  pub able : CanDoAct p.layout (plain_act s.act.now)
  pub tests : plain_tests s.tests.items ≡ tests_in_act (plain_act s.act.now)
  pub testable : AllByRecursion (CanTest p.layout) (tests_in_act (plain_act s.act.now))
