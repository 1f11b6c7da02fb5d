-- The plain evaluation of a graph without edges that go back: nodes in their order, each the join of what comes along its
-- edges.
use Rattle.std.specs.Prelude.{ℕ, zero, suc, ◌-◌, ◌≤◌, ◌<◌, ◌==◌, if◌then◌else◌, List, [], ◌∷◌, ◌++◌, length, get_or, None, Some}
use Rattle.cob_program.specs.Act.{Program}
use Rattle.cob_graph.specs.declared.graph.Graph.{Graph}
use Rattle.graph_runs.specs.Places.{edge_at}
use Rattle.interval_domain.specs.Elements.{Element, joined_element}
use Rattle.cell_laws.specs.Entry.{entry_cells}
use Rattle.cell_laws.specs.Layer.{post_at}
use Rattle.graph_runs.specs.Sources.{IsSourceGraph}
use Rattle.cert_check.specs.Assignments.{Assignment}
use Rattle.analyse_core.specs.Assignments.{IsThresholdAssignment}

-- what is known at a node among the first ones
abbrev pub known_of : List Element → ℕ → Element
known_of xs node = get_or xs (node - 1) None

module _ (p : Program) (g : Graph) where
  -- what comes along an edge
  abbrev pub along : List Element → ℕ → Element
  along xs e = post_at p g e (known_of xs (edge_at g e).from)

  abbrev pub with_edge : List Element → ℕ → ℕ → Element → Element
  with_edge xs node e x = if (edge_at g e).to == node then joined_element x (along xs e) else x

  -- what comes to a node along the first edges
  abbrev pub joined_along : List Element → ℕ → ℕ → Element
  joined_along xs node zero = if node == 1 then Some (entry_cells p) else None
  joined_along xs node (suc e) = with_edge xs node (suc e) (joined_along xs node e)

  abbrev pub with_node : ℕ → List Element → List Element
  with_node node xs = xs ++ joined_along xs node (length g.edges) ∷ []

  -- the plain evaluation of the first nodes
  abbrev pub plain_to : ℕ → List Element
  plain_to zero = []
  plain_to (suc n) = with_node (suc n) (plain_to n)

  abbrev pub plain_at : ℕ → Element
  plain_at node = known_of (plain_to (length g.nodes)) node

  -- it says nothing of differences
  abbrev pub plain_assignment : Assignment
  plain_assignment = record { cells = plain_at; matrices = λ node. [] }

  -- each edge leads to a later node
  abbrev pub GoesOn : Type 0
  GoesOn = (e : ℕ) → 1 ≤ e → e ≤ length g.edges → (edge_at g e).from < (edge_at g e).to

-- Without edges that go back, the plain evaluation is an assignment that the analysis doesn't miss.
abbrev pub PlainEvaluationAssigns : Type 0
PlainEvaluationAssigns =
    (p : Program) (g : Graph) → ∥ IsSourceGraph p g ∥₁ → GoesOn p g → IsThresholdAssignment p g (plain_assignment p g)
