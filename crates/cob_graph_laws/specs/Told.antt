-- What ways through a program's graph tell of the run, where what a statement leaves undefined keeps what stood there.
use Rattle.std.specs.Prelude.{◌≡◌, ◌<◌, ℕ, true, false, List, [], Contains, Some, None, Ok, Err}
use Rattle.cob_tree.specs.declared.fault.Kind.{Kind}
use Rattle.cob_program.specs.Act.{Program}
use Rattle.cob_runs.specs.declared.action.Action.{Action}
use Rattle.cob_runs.specs.declared.outcome.Outcome.{Outcome}
use Rattle.cob_runs.specs.declared.outcome.Outcome.TheVariants.{Going, Ended, IoStop, Fault}
use Rattle.cob_runs.specs.State.{World, State}
use Rattle.cob_runs.specs.Effects.{effect, status, is_handled}
use Rattle.cob_runs.specs.Runs.{Contents, run}
use Rattle.cob_graph.specs.declared.graph.Node.{Node}
use Rattle.cob_graph.specs.declared.graph.Graph.{Graph}
use Rattle.cob_graph.specs.Graphs.{IsGraph}
use Rattle.cob_graph.specs.WellFormed.{IsWellFormed}
use Rattle.cob_graph_laws.specs.Ways.{Comes, next_statement, passed}
use Rattle.cob_graph.specs.Lookup.{node_at, edge, final_in}

module _ (p : Program) (g : Graph) (contents : Contents) (first : List ℕ) where
  abbrev pub Way : ℕ → ℕ → World → Type 0
  Way k n w = Comes p g contents first [] k n w

  abbrev pub after : ℕ → State
  after n = run p contents first [] n

  -- the run is over after so many steps, and not before, with this outcome and this world
  pub record IsOverAfter (n : ℕ) (ending : Outcome) (w : World) : Type 0 where
    pub outcome : (after n).outcome ≡ ending
    pub world : (after n).world ≡ w
    pub before : (m : ℕ) → m < n → (after m).outcome ≡ Going

  -- the run goes on after so many steps, with this world and with this statement
  pub record GoesOnAfter (n : ℕ) (statement : ℕ) (w : World) : Type 0 where
    pub outcome : (after n).outcome ≡ Going
    pub world : (after n).world ≡ w
    pub next : next_statement p (after n).control ≡ statement

  pub record WaysTell : Type 0 where
    -- the final node
    pub ends : (k : ℕ) (w : World) → Way k (final_in g) w → IsOverAfter k Ended w
    -- an edge on which the node's statement meets a fault
    pub faults :
        (k n : ℕ) (w : World) (x : Node) (a : Action) (m : ℕ) (kind : Kind) → Way k n w
        → node_at g.nodes n ≡ Some x → Contains g.edges (edge n a m)
        → effect p x.statement None w a ≡ Err kind
        → IsOverAfter (passed k x) (Fault kind x.statement) w
    -- an edge on which it meets a status that nothing handles
    pub stops :
        (k n : ℕ) (w v : World) (x : Node) (a : Action) (m status_ : ℕ) → Way k n w
        → node_at g.nodes n ≡ Some x → Contains g.edges (edge n a m)
        → effect p x.statement None w a ≡ Ok (Some v) → status p x.statement None w a ≡ Some status_
        → is_handled p x.statement a ≡ false
        → IsOverAfter (passed k x) (IoStop status_ x.statement) v
    -- a node at which a step begins
    pub goes_on :
        (k n : ℕ) (w : World) (x : Node) → Way k n w → node_at g.nodes n ≡ Some x → x.starts ≡ true
        → GoesOnAfter k x.statement w

abbrev pub WaysTellOfRuns : Type 0
WaysTellOfRuns =
    (p : Program) (g : Graph) → IsWellFormed p → IsGraph p g → (contents : Contents) (first : List ℕ) →
    WaysTell p g contents first
