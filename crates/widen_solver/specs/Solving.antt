-- What the solver's parts do to the rows.
use Rattle.std.specs.Prelude.{◌≡◌, ℕ, zero, suc, ◌+◌, ◌-◌, ◌*◌, ◌<◌, ◌≤◌, ◌↔◌, List, ℤ, Bool, true, false, length, if◌then◌else◌}
use Rattle.dom_laws.specs.Lattice.{Lattice, IsElement}
use Rattle.dom_laws.specs.Flow.{Flow, IsNode, IsEdge, IsHead, IsDominated, goes_back_to, head_count}
use Rattle.widen_solver.specs.Stored.{row_at}

-- The most transfers that are made.
abbrev pub step_bound : Lattice → Flow → ℕ
step_bound l f = f.edges * (head_count f * l.height + 2)

-- rows that hold the entry, and no more than they must
pub record IsUnderWay (l : Lattice) (f : Flow) (rows : List (List ℤ)) : Type 0 where
  pub nodes : length rows ≡ f.nodes
  pub elements : (node : ℕ) → IsNode f node → IsElement l (row_at rows node)
  pub entry : l.Below f.entry (row_at rows 1)
  pub dominated : IsDominated l f (row_at rows)

-- What comes to a node's row: it is widened at a head and joined elsewhere; `grew` tells that a head grew.
pub record Arrives (l : Lattice) (f : Flow) (node : ℕ) (old more new : List ℤ) (grew : Bool) : Type 0 where
  pub widened : IsHead f node → new ≡ l.widen old more
  pub joined : ¬ IsHead f node → new ≡ l.join old more
  pub kept : IsHead f node → (grew ≡ false) ↔ l.Below more old
  pub quiet : ¬ IsHead f node → grew ≡ false

-- the edge adds nothing to its target's row
abbrev pub IsSettled : Lattice → Flow → List (List ℤ) → ℕ → Type 0
IsSettled l f rows edge = l.Below (f.post edge (row_at rows (f.source edge))) (row_at rows (f.target edge))

-- how often the heads among the first nodes can still grow
abbrev pub ranks_up_to : Lattice → Flow → List (List ℤ) → ℕ → ℕ
ranks_up_to l f rows zero = 0
ranks_up_to l f rows (suc node) = (if goes_back_to f (suc node) f.edges then l.rank (row_at rows (suc node)) else 0) + ranks_up_to l f rows node

abbrev pub head_ranks : Lattice → Flow → List (List ℤ) → ℕ
head_ranks l f rows = ranks_up_to l f rows f.nodes

-- One edge's step, which knows no order among the edges; `again` tells that a head grew by an edge that goes back.
pub record TakesEdge (l : Lattice) (f : Flow) (edge : ℕ) (old new : List (List ℤ)) (again : Bool) : Type 0 where
  pub under_way : IsUnderWay l f new
  pub here : again ≡ false → IsSettled l f new edge
  pub keeps : again ≡ false → (other : ℕ) → IsEdge f other → f.source other ≤ f.source edge → IsSettled l f old other → IsSettled l f new other
  pub keeps_before : (other : ℕ) → IsEdge f other → f.source other < f.target edge → IsSettled l f old other → IsSettled l f new other
  pub no_higher : head_ranks l f new ≤ head_ranks l f old
  pub falls : again ≡ true → head_ranks l f new < head_ranks l f old

-- the edges before this one are settled
pub record AreSettled (l : Lattice) (f : Flow) (rows : List (List ℤ)) (edge : ℕ) : Type 0 where
  pub each : (other : ℕ) → IsEdge f other → other < edge → IsSettled l f rows other

-- The most steps that are left from this edge on: its own and those of the edges behind it, and all for each rank of a head.
abbrev pub steps_left : Lattice → Flow → List (List ℤ) → ℕ → ℕ
steps_left l f rows edge = f.edges * head_ranks l f rows + (suc f.edges - edge)

-- One edge's step behind settled ones; `next` is the edge to take then.
pub record Advances (l : Lattice) (f : Flow) (edge : ℕ) (old new : List (List ℤ)) (next : ℕ) : Type 0 where
  pub under_way : IsUnderWay l f new
  pub settled : AreSettled l f new next
  pub next_within : next ≤ suc edge
  pub fewer_left : steps_left l f new next < steps_left l f old edge
