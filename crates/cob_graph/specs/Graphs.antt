-- The graph of a program: the main copy of its paragraphs, with the copies that PERFORMs lay, and the final node.
use Rattle.std.specs.Prelude.{◌≡◌, ◌≤◌, ◌<◌, min, ℕ, suc, ◌+◌, ◌-◌, false, List, [], ◌∷◌, ◌++◌, length, map}
use Rattle.cob_data.specs.declared.end.Which.{Which}
use Rattle.cob_data.specs.declared.end.Which.TheVariants.{Cells, Nodes}
use Rattle.cob_program.specs.Act.{Program}
use Rattle.cob_runs.specs.declared.action.Action.{Action}
use Rattle.cob_runs.specs.declared.action.Cell.{Cell}
use Rattle.cob_graph.specs.declared.graph.Node.{Node}
use Rattle.cob_graph.specs.declared.graph.Edge.{Edge}
use Rattle.cob_graph.specs.declared.graph.Graph.{Graph}
use Rattle.cob_graph.specs.Laid.{LaidParas, paras_size}
use Rattle.cob_graph.specs.Places.{first_of_para}
use Rattle.cob_graph.specs.Copies.{AreLaidParas}
use Rattle.cob_graph.specs.Nodes.{Noded, Copied, paras_nodes}
use Rattle.cob_graph.specs.Homes.{homes_of, cell_of_home}
use Rattle.cob_graph.specs.Limits.{most_cells, most_nodes, most_told}

-- ---- nodes and edges

abbrev pub last_para : Program → ℕ
last_para p = length p.paras - 1

abbrev pub final_of : LaidParas → ℕ
final_of ps = 1 + paras_size ps

abbrev pub main_copy : Program → LaidParas → Copied
main_copy p ps = record { layout = p.layout; sites = []; para = λ n. first_of_para n ps 1 (final_of ps); final = final_of ps }

abbrev pub final_node : Noded
final_node = record { statement = 0; sites = []; starts = false; out = [] }

abbrev pub all_nodes : Program → LaidParas → List Noded
all_nodes p ps = paras_nodes (main_copy p ps) ps 1 (final_of ps) ++ final_node ∷ []

abbrev pub as_node : Noded → Node
as_node n = record { statement = n.statement; sites = n.sites; starts = n.starts }

abbrev pub edges_from : ℕ → List (Action × ℕ) → List Edge
edges_from from [] = []
edges_from from (x ∷ xs) = record { from = from; to = x.1; action = x.0 } ∷ edges_from from xs

-- the edges of nodes with these numbers from one on
abbrev pub edges_of : ℕ → List Noded → List Edge
edges_of at [] = []
edges_of at (n ∷ ns) = edges_from at n.out ++ edges_of (suc at) ns

-- ---- cells

-- those of the items, and then counters in the order of the statements' numbers
abbrev pub cells_of : Program → List Cell
cells_of p = map (cell_of_home p.layout) (homes_of p)

-- ---- graphs

-- the paragraphs with their copies written in
abbrev pub IsMainCopy : Program → LaidParas → Type 0
IsMainCopy p ps = AreLaidParas p 0 (last_para p) 0 (length p.paras) ps

pub record IsGraph (p : Program) (g : Graph) : Type 0 where
  pub copies : LaidParas
  pub laid : IsMainCopy p copies
  pub nodes : g.nodes ≡ map as_node (all_nodes p copies)
  pub edges : g.edges ≡ edges_of 1 (all_nodes p copies)
  pub cells : g.cells ≡ cells_of p

-- how many nodes the program's graph has
pub record HasNodes (p : Program) (count : ℕ) : Type 0 where
  pub copies : LaidParas
  pub laid : IsMainCopy p copies
  pub counted : count ≡ final_of copies

-- ---- one of each

-- PERFORMs say which copies they lay: a program has one main copy at most,
abbrev pub OneMainCopy : Type 0
OneMainCopy = (p : Program) (a b : LaidParas) → IsMainCopy p a → IsMainCopy p b → a ≡ b

-- one count of nodes,
abbrev pub OneCount : Type 0
OneCount = (p : Program) (m n : ℕ) → HasNodes p m → HasNodes p n → m ≡ n

-- A program has one graph.
abbrev pub OneGraph : Type 0
OneGraph = (p : Program) (g h : Graph) → IsGraph p g → IsGraph p h → g ≡ h

-- ---- limits

pub record HasTooManyCells (p : Program) (count : ℕ) : Type 0 where
  pub counted : count ≡ length (cells_of p)
  pub over : most_cells < count

pub record HasTooManyNodes (p : Program) (count : ℕ) : Type 0 where
  pub cells : length (cells_of p) ≤ most_cells
  pub nodes : ℕ
  pub counted : HasNodes p nodes
  pub over : most_nodes < nodes
  pub told : count ≡ min nodes most_told

abbrev pub IsOver : Program → Which → ℕ → Type 0
IsOver p Cells count = HasTooManyCells p count
IsOver p Nodes count = HasTooManyNodes p count
IsOver p _ count = ⊥
