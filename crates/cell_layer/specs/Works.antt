-- What the edges of a graph do, worked out.
use Rattle.std.specs.Prelude.{◌≡◌, ◌<◌, ◌++◌, ℕ, List, length, map, slice_get, slice_index_or, Option, Some, None, IfSome}
use Rattle.std.specs.Option.{option_map}
use Rattle.cob_program.specs.ActView.{plain_stmt, plain_program}
use Rattle.cob_program.specs.Act.{Stmt, Act, Program}
use Rattle.cob_program.specs.Values.{◌>>=◌}
use Rattle.cob_runs.specs.declared.action.Action.{Action}
use Rattle.cob_runs.specs.Effects.{act_at}
use Rattle.cob_graph.specs.declared.graph.Edge.{Edge}
use Rattle.cob_graph.specs.declared.graph.Graph.{Graph}
use Rattle.cob_edge_parts.specs.Parts.{Part}
use Rattle.edge_parts.specs.PartView.{plain_part}
use Rattle.edge_parts.specs.declared.work.EdgeWork.{EdgeWork}
use Rattle.graph_runs.specs.Places.{no_edge}
use Rattle.cell_laws.specs.Layer.{left}
use Rattle.cell_layer.specs.NumberedStatements.{number_in, act_in}

-- ---- a work

abbrev pub program_of : EdgeWork → Program
program_of w = plain_program w.program.now

abbrev pub statement_of : EdgeWork → Stmt
statement_of w = plain_stmt w.statement.now

abbrev pub act_of : EdgeWork → Act
act_of w = act_in (statement_of w)

abbrev pub parts_in : EdgeWork → List Part
parts_in w = map plain_part w.parts.items

-- ---- works of edges

-- the statement that an edge leaves, if the program has it
pub record IsLeft (p : Program) (g : Graph) (x : Edge) (o : Option Stmt) : Type 0 where
  pub act : act_at p (left g x) ≡ option_map act_in o
  pub number : IfSome o (λ y. number_in y ≡ left g x)

-- what an edge does, if the program has the statement that it leaves
pub record IsWorkOf (p : Program) (g : Graph) (x : Edge) (o : Option EdgeWork) : Type 0 where
  pub left : IsLeft p g x (option_map statement_of o)
  pub program : IfSome o (λ w. program_of w ≡ p)
  pub action : IfSome o (λ w. w.action ≡ x.action)

-- ---- works in a list

-- a work that stands at a place, of the statement with a number, by an action
pub record StandsAt (works : List EdgeWork) (number : ℕ) (action : Action) (place : ℕ) : Type 0 where
  pub work : EdgeWork
  pub at : slice_get works place ≡ Some work
  pub of_statement : number_in (statement_of work) ≡ number
  pub by_action : work.action ≡ action

-- at the place, if there is one, stands the edge's work
pub record IsPlaceOf (p : Program) (g : Graph) (works : List EdgeWork) (x : Edge) (place : Option ℕ) : Type 0 where
  pub within : IfSome place (λ k. k < length works)
  pub work : IsWorkOf p g x (place >>= slice_get works)

-- the places of the works of the first edges, so many
pub record AreFirstPlaces (p : Program) (g : Graph) (works : List EdgeWork) (many : ℕ) (places : List (Option ℕ)) : Type 0 where
  pub count : length places ≡ many
  pub each : (k : ℕ) → k < many → ∥ IsPlaceOf p g works (slice_index_or g.edges k no_edge) (slice_index_or places k None) ∥₁

-- each edge's work stands at its place
abbrev pub ArePlaces : Program → Graph → List EdgeWork → List (Option ℕ) → Type 0
ArePlaces p g works places = AreFirstPlaces p g works (length g.edges) places

-- the program finds the statement by its number
pub record IsOfProgram (p : Program) (w : EdgeWork) : Type 0 where
  pub program : program_of w ≡ p
  pub found : act_at p (number_in (statement_of w)) ≡ Some (act_of w)

-- more works may stand behind those that were there
abbrev pub HasMore : List EdgeWork → List EdgeWork → Type 0
HasMore old new = (more : List EdgeWork) × (new ≡ old ++ more)
