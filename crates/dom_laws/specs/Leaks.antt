-- Where rows for the nodes are not kept, by place: 0 is the entry, and the others are the edges.
use Rattle.std.specs.Prelude.{ℕ, zero, suc, ◌<◌, ◌≤◌, List, ℤ}
use Rattle.dom_laws.specs.Lattice.{Lattice, IsElement}
use Rattle.dom_laws.specs.Flow.{Flow, IsNode}

-- each node has a well-formed row
abbrev pub HasElements : Lattice → Flow → (ℕ → List ℤ) → Type 0
HasElements l f rows = (node : ℕ) → IsNode f node → IsElement l (rows node)

-- what comes there is below the row that it comes to
abbrev pub Keeps : Lattice → Flow → (ℕ → List ℤ) → ℕ → Type 0
Keeps l f rows zero = l.Below f.entry (rows 1)
Keeps l f rows (suc e) = l.Below (f.post (suc e) (rows (f.source (suc e)))) (rows (f.target (suc e)))

-- all before it are kept, and it isn't
pub record IsFirstLeak (l : Lattice) (f : Flow) (rows : ℕ → List ℤ) (place : ℕ) : Type 0 where
  pub within : place ≤ f.edges
  pub before : (earlier : ℕ) → earlier < place → Keeps l f rows earlier
  pub leaks : ¬ Keeps l f rows place
