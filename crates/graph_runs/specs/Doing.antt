-- What a program does along its graph: one meaning for all layers of the analysis. Each part of it carries what every
-- source's program keeps, so that the laws of a layer need ask for nothing more.
use Rattle.std.specs.Prelude.{◌≡◌, ℕ, List, Some, replicate, pos}
use Rattle.cob_tree.specs.declared.fault.Kind.{Kind}
use Rattle.cob_program.specs.Act.{Act, Program}
use Rattle.cob_runs.specs.Runs.{first_storage}
use Rattle.cob_graph.specs.declared.graph.Graph.{Graph}
use Rattle.cob_edge_parts.specs.Parts.{is_handled}
use Rattle.cob_edge_parts.specs.Meaning.{Moment, beginning}
use Rattle.cob_edge_parts.specs.Edges.{fault_edge}
use Rattle.dom_laws.specs.Meaning.{Storage, Runs}
use Rattle.graph_runs.specs.Places.{edge_at, Leaves, DoesAt}
use Rattle.graph_runs.specs.Sources.{IsSourceGraph}
use Rattle.cob_edge_parts.specs.Counters.{PassesEdge, MeetsOnEdge}

abbrev pub start : Storage → Moment
start s = beginning s.bytes s.counters

module _ (p : Program) (g : Graph) where
  -- Each item that begins with a value has it, other bytes are any, and counters are 0, which lets no loop go on that
  -- hasn't set its own.
  pub record Begins (s : Storage) : Type 0 where
    pub of_source : IsSourceGraph p g
    pub first : List ℕ
    pub bytes : s.bytes ≡ first_storage p.layout first
    pub counters : s.counters ≡ replicate p.statements (Some (pos 0))

  -- The edge's parts lead from one storage to the other. On an edge to the list of ON SIZE ERROR some receiver has kept
  -- its value.
  pub record Acts (e : ℕ) (s t : Storage) : Type 0 where
    pub of_source : IsSourceGraph p g
    pub statement : ℕ
    pub act : Act
    pub does : DoesAt p g (edge_at g e).from statement act
    pub last : Moment
    pub way : PassesEdge p statement act (edge_at g e).action (start s) last
    pub bytes : last.storage ≡ t.bytes
    pub counters : last.counts ≡ t.counters
    pub fails : last.failed ≡ is_handled act (edge_at g e).action

  -- An edge of the node, with what its statement does. Where the statement has ON SIZE ERROR no fault is met on the edge
  -- without a size error, but on that to the phrase's list.
  pub record IsMetOn (node e statement : ℕ) (a : Act) : Type 0 where
    pub of_source : IsSourceGraph p g
    pub does : DoesAt p g node statement a
    pub leaves : Leaves g e node
    pub its : fault_edge a (edge_at g e).action ≡ (edge_at g e).action

  -- a part of such an edge meets the fault
  pub record MeetsAt (node : ℕ) (fault : Kind) (s : Storage) : Type 0 where
    pub e : ℕ
    pub statement : ℕ
    pub act : Act
    pub on : IsMetOn node e statement act
    pub meets : MeetsOnEdge p statement act (edge_at g e).action (start s) fault

  abbrev pub graph_runs : Runs
  graph_runs = record { Begins = Begins; Acts = Acts; Meets = MeetsAt }
