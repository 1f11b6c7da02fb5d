-- Systems: graphs whose edges transfer rows of a domain, and assignments of rows to nodes.
use Rattle.std.specs.Prelude.{◌≡◌, ℕ, zero, suc, ◌+◌, ◌≤◌, List, ℤ, Bool, false, ◌&&◌, ◌||◌, nat_eq, nat_le, if◌then◌else◌}
use Rattle.dom_laws.specs.Lattice.{Lattice, IsElement}

-- Nodes and edges are numbered from 1, and node 1 is where runs begin.
pub record Flow : Type 0 where
  pub nodes : ℕ
  pub edges : ℕ
  pub source : ℕ → ℕ
  pub target : ℕ → ℕ
  pub entry : List ℤ
  pub post : ℕ → List ℤ → List ℤ

pub record IsNode (f : Flow) (node : ℕ) : Type 0 where
  pub first : 1 ≤ node
  pub last : node ≤ f.nodes

pub record IsEdge (f : Flow) (edge : ℕ) : Type 0 where
  pub first : 1 ≤ edge
  pub last : edge ≤ f.edges

-- an edge goes back where its target isn't greater than its source
abbrev pub GoesBack : Flow → ℕ → Type 0
GoesBack f edge = f.target edge ≤ f.source edge

-- a target of an edge that goes back
abbrev pub IsHead : Flow → ℕ → Type 0
IsHead f node = (edge : ℕ) × IsEdge f edge × GoesBack f edge × (f.target edge ≡ node)

pub record IsFlow (l : Lattice) (f : Flow) : Type 0 where
  pub has_node : 1 ≤ f.nodes
  pub source_node : (edge : ℕ) → IsEdge f edge → IsNode f (f.source edge)
  pub target_node : (edge : ℕ) → IsEdge f edge → IsNode f (f.target edge)
  -- edges are numbered by their source
  pub by_source : (d e : ℕ) → IsEdge f d → IsEdge f e → d ≤ e → f.source d ≤ f.source e
  pub entry_element : IsElement l f.entry
  pub post_element : (edge : ℕ) (a : List ℤ) → IsEdge f edge → IsElement l a → IsElement l (f.post edge a)
  pub post_monotone : (edge : ℕ) (a b : List ℤ) → IsEdge f edge → IsElement l a → IsElement l b → l.Below a b
      → l.Below (f.post edge a) (f.post edge b)

-- what the nodes hold is kept by the entry and by every edge
pub record IsInductive (l : Lattice) (f : Flow) (rows : ℕ → List ℤ) : Type 0 where
  pub elements : (node : ℕ) → IsNode f node → IsElement l (rows node)
  pub entry : l.Below f.entry (rows 1)
  pub edges : (edge : ℕ) → IsEdge f edge → l.Below (f.post edge (rows (f.source edge))) (rows (f.target edge))

-- Widening two rows at or below a head's row stays at or below it.
abbrev pub HeadsAreFixed : Lattice → Flow → (ℕ → List ℤ) → Type 0
HeadsAreFixed l f rows =
    (head : ℕ) → IsHead f head → (a b : List ℤ) → IsElement l a → IsElement l b
    → l.Below a (rows head) → l.Below b (rows head) → l.Below (l.widen a b) (rows head)

-- below every inductive assignment whose heads are fixed
abbrev pub IsDominated : Lattice → Flow → (ℕ → List ℤ) → Type 0
IsDominated l f rows =
    (others : ℕ → List ℤ) → IsInductive l f others → HeadsAreFixed l f others
    → (node : ℕ) → IsNode f node → l.Below (rows node) (others node)

-- ---- heads, counted

-- an edge up to this one goes back to the node
abbrev pub goes_back_to : Flow → ℕ → ℕ → Bool
goes_back_to f node zero = false
goes_back_to f node (suc e) =
    (nat_eq (f.target (suc e)) node && nat_le (f.target (suc e)) (f.source (suc e))) || goes_back_to f node e

-- how many of the nodes up to this one are heads
abbrev pub heads_up_to : Flow → ℕ → ℕ
heads_up_to f zero = 0
heads_up_to f (suc node) = (if goes_back_to f (suc node) f.edges then 1 else 0) + heads_up_to f node

abbrev pub head_count : Flow → ℕ
head_count f = heads_up_to f f.nodes
