-- Ways through a program's graph, and that they show what its runs do.
use Rattle.std.specs.Prelude.{◌≡◌, ◌≤◌, ℕ, ◌+◌, ◌-◌, true, false, List, [], ◌∷◌, Contains, Some, Ok, Err}
use Rattle.cob_tree.specs.declared.fault.Kind.{Kind}
use Rattle.cob_program.specs.Act.{Program}
use Rattle.cob_runs.specs.declared.action.Action.{Action}
use Rattle.cob_runs.specs.declared.outcome.Outcome.{Outcome}
use Rattle.cob_runs.specs.declared.outcome.Outcome.TheVariants.{Going, Ended, IoStop, Fault}
use Rattle.cob_runs.specs.Files.{Choice}
use Rattle.cob_runs.specs.State.{World, Doing, State}
use Rattle.cob_runs.specs.Steps.{number_of}
use Rattle.cob_runs.specs.Effects.{effect, status, is_handled}
use Rattle.cob_runs.specs.Runs.{Contents, first_world, run, choice_at}
use Rattle.cob_graph.specs.declared.graph.Node.{Node}
use Rattle.cob_graph.specs.declared.graph.Graph.{Graph}
use Rattle.cob_graph.specs.Laid.{one_if}
use Rattle.cob_graph.specs.Graphs.{IsGraph}
use Rattle.cob_graph.specs.Lookup.{node_at, edge, final_in}
use Rattle.cob_graph.specs.WellFormed.{IsWellFormed}

-- the number of the statement to which what is to be done next belongs
abbrev pub next_statement : Program → List Doing → ℕ
next_statement p [] = 0
next_statement p (d ∷ ds) = number_of d

-- how many nodes at which a step begins were left, where so many were left before this one
abbrev pub passed : ℕ → Node → ℕ
passed k x = k + one_if x.starts

module _ (p : Program) (g : Graph) (contents : Contents) (first : List ℕ) (choices : List Choice) where
  -- A way from node 1 has left so many nodes at which a step begins, and stands at a node with a world. What is left
  -- undefined is chosen as in the step to which the node belongs. No status on it ends the run.
  pub data Comes : ℕ → ℕ → World → Type 0 where
    at_first : Comes 0 1 (first_world p contents first)
    onward : {k n : ℕ} {w v : World} (x : Node) (a : Action) (m : ℕ) → Comes k n w → node_at g.nodes n ≡ Some x
        → Contains g.edges (edge n a m)
        → effect p x.statement (choice_at p contents first choices (passed k x - 1)) w a ≡ Ok (Some v)
        → is_handled p x.statement a ≡ true
        → Comes (passed k x) m v

  -- a way to a node with this world, which has left at most so many
  pub record ComesWithin (n : ℕ) (node : ℕ) (w : World) : Type 0 where
    pub left : ℕ
    pub within : left ≤ n
    pub way : Comes left node w

  -- a way to a node of the statement, in one of whose edges it meets the fault
  pub record ComesToFault (n : ℕ) (kind : Kind) (statement : ℕ) (w : World) : Type 0 where
    pub left : ℕ
    pub node : ℕ
    pub at : Node
    pub action : Action
    pub to : ℕ
    pub way : Comes left node w
    pub stands : node_at g.nodes node ≡ Some at
    pub within : passed left at ≤ n
    pub its : at.statement ≡ statement
    pub out : Contains g.edges (edge node action to)
    pub meets : effect p statement (choice_at p contents first choices (passed left at - 1)) w action ≡ Err kind

  -- a way to the final node by an edge of the statement on whose file this status is met, which nothing handles
  pub record ComesByStatus (n : ℕ) (status_ : ℕ) (statement : ℕ) (w : World) : Type 0 where
    pub left : ℕ
    pub node : ℕ
    pub before : World
    pub at : Node
    pub action : Action
    pub way : Comes left node before
    pub stands : node_at g.nodes node ≡ Some at
    pub within : passed left at ≤ n
    pub its : at.statement ≡ statement
    pub out : Contains g.edges (edge node action (final_in g))
    pub leads : effect p statement (choice_at p contents first choices (passed left at - 1)) before action ≡ Ok (Some w)
    pub meets :
        status p statement (choice_at p contents first choices (passed left at - 1)) before action ≡ Some status_
    pub unhandled : is_handled p statement action ≡ false

  -- What a run shows that goes on after n steps: a way that left n nodes at which a step begins, to another of them.
  -- That one is of the statement that is to be done next.
  pub record ComesExactly (n : ℕ) (s : State) : Type 0 where
    pub node : ℕ
    pub at : Node
    pub way : Comes n node s.world
    pub stands : node_at g.nodes node ≡ Some at
    pub begins : at.starts ≡ true
    pub its : at.statement ≡ next_statement p s.control

  abbrev pub ShowsBy : Outcome → ℕ → State → Type 0
  ShowsBy Going n s = ComesExactly n s
  ShowsBy Ended n s = ComesWithin n (final_in g) s.world
  ShowsBy (IoStop status_ statement) n s = ComesByStatus n status_ statement s.world
  ShowsBy (Fault kind statement) n s = ComesToFault n kind statement s.world

  abbrev pub Shows : ℕ → State → Type 0
  Shows n s = ShowsBy s.outcome n s

-- Each run of so many steps is a way through the graph, with the same storage, files, shown text and outcome.
abbrev pub IsSimulated : Program → Graph → Type 0
IsSimulated p g =
    (contents : Contents) (first : List ℕ) (choices : List Choice) (n : ℕ) →
    Shows p g contents first choices n (run p contents first choices n)

-- the runs of a program are ways through its graph
abbrev pub RunsAreWays : Type 0
RunsAreWays = (p : Program) (g : Graph) → IsWellFormed p → IsGraph p g → IsSimulated p g
