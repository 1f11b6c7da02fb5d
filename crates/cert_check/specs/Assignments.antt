-- What is claimed or found at each node of a program's graph: what comes along edges, where that isn't kept, and which
-- faults are left open.
use Rattle.std.specs.Prelude.{ℕ, zero, suc, List, [], ◌∷◌, ◌++◌, map, length, Bool, Option, Some, ℤ}
use Rattle.std.specs.List.{flat_map, range_with_len}
use Rattle.std.specs.Option.{option_map_or}
use Rattle.cob_tree.specs.declared.fault.Kind.{Kind}
use Rattle.cob_tree.specs.declared.fault.Open.{Open}
use Rattle.cob_program.specs.Act.{Program}
use Rattle.cob_graph.specs.declared.graph.Graph.{Graph}
use Rattle.cob_graph.specs.Homes.{homes_of}
use Rattle.graph_runs.specs.Places.{edge_at}
use Rattle.interval_domain.specs.Elements.{Element}
use Rattle.cell_steps.specs.OwnRanges.{owns}
use Rattle.cell_laws.specs.Entry.{entry_cells}
use Rattle.cell_laws.specs.Layer.{post_at, clears_at, row_for}
use Rattle.diff_bounds.specs.PackRows.{row_of}
use Rattle.diff_steps.specs.Packs.{Pack}
use Rattle.diff_steps.specs.Edges.{entry_packs}
use Rattle.pack_laws.specs.Layer.{packs_post, clears_at2}
use Rattle.pack_laws.specs.Packs.{pack_in}
use Rattle.cert_text.specs.View.{Place}
use Rattle.cert_text.specs.declared.gap.Gap.{Gap}
use Rattle.cert_text.specs.Gaps.{gaps}
use Rattle.cert_text.specs.MatrixClaims as matrices
use Rattle.cert_text.specs.MatrixGaps as matrices_gaps
use Rattle.cert_check.specs.declared.ends.Leak.{Leak}
use Rattle.cert_check.specs.OpenPairs.{pairs_by, some_layer_clears}

-- What is known of the cells at each node, and a matrix of differences for each pack.
pub record Assignment : Type 0 where
  pub cells : ℕ → Element
  pub matrices : ℕ → List (List ℤ)

-- where an edge leads; edge 0 is the entry, which leads to node 1
abbrev pub leads_to : Graph → ℕ → ℕ
leads_to g zero = 1
leads_to g (suc e) = (edge_at g (suc e)).to

-- the packs of a program, by what their cells are of
abbrev pub packs_with : Program → List (List ℕ) → List Pack
packs_with p packs = map (pack_in (homes_of p)) packs

-- ---- what comes along edges

-- what comes along an edge
abbrev pub comes_along : Program → Graph → Assignment → ℕ → Element
comes_along p g a zero = Some (entry_cells p)
comes_along p g a (suc e) = post_at p g (suc e) (a.cells (edge_at g (suc e)).from)

-- the matrices that come along it, beside what is known of the cells at its source
abbrev pub matrices_along : Program → Graph → List (List ℕ) → Assignment → ℕ → List (List ℤ)
matrices_along p g packs a zero = entry_packs p (packs_with p packs) (entry_cells p)
matrices_along p g packs a (suc e) =
    packs_post p g (packs_with p packs) (edge_at g (suc e)) (a.cells (edge_at g (suc e)).from)
    (a.matrices (edge_at g (suc e)).from)

-- ---- as rows

-- what is known of the cells as rows of the first layer
abbrev pub cells_row : Program → Assignment → ℕ → List ℤ
cells_row p a node = row_for p (a.cells node)

-- the matrices as rows of the second layer
abbrev pub matrices_row : Assignment → ℕ → List ℤ
matrices_row a node = row_of (a.matrices node)

-- ---- leaks

-- a leak's layer is 1 for cells and 2 for packs
abbrev pub leak : ℕ → ℕ → Gap → Leak
leak layer edge gap = record { layer = layer; edge = edge; gap = gap }

abbrev pub leaks_of : Graph → ℕ → (ℕ → List Gap) → List Leak
leaks_of g layer gaps_of = flat_map (λ e. map (leak layer e) (gaps_of e)) (range_with_len 0 (suc (length g.edges)))

-- What comes along edges is compared with what is written of their targets, as it is written, if anything is.
module _ (p : Program) (g : Graph) (packs : List (List ℕ)) (a : Assignment) (written : ℕ → Option Place) where
  abbrev pub edge_gaps : ℕ → List Gap
  edge_gaps e = option_map_or (gaps (length (owns p)) (comes_along p g a e)) (written (leads_to g e)) []

  abbrev pub matrix_gaps : List ℕ → ℕ → Place → List Gap
  matrix_gaps sizes e place =
      matrices_gaps.gaps sizes (row_of (matrices_along p g packs a e)) (matrices.claimed_row sizes place)

  abbrev pub pack_gaps : ℕ → List Gap
  pack_gaps e = option_map_or (matrix_gaps (matrices.sizes_of packs) e) (written (leads_to g e)) []

  -- the places at which what is known of cells isn't kept, edge by edge
  abbrev pub cell_leaks : List Leak
  cell_leaks = leaks_of g 1 edge_gaps

  -- the places at which what is known of packs isn't kept, edge by edge
  abbrev pub pack_leaks : List Leak
  pack_leaks = leaks_of g 2 pack_gaps

  -- All places at which the assignment isn't inductive.
  abbrev pub leaks : List Leak
  leaks = cell_leaks ++ pack_leaks

-- ---- what is cleared

-- what is known of the cells at a node shows by itself
abbrev pub cells_clear : Program → Graph → Assignment → ℕ → Kind → Bool
cells_clear p g a node fault = clears_at p g node (a.cells node) fault

module _ (p : Program) (g : Graph) (packs : List (List ℕ)) (a : Assignment) where
  -- what it shows with the matrices, among which is all that it shows by itself
  abbrev pub both_clear : ℕ → Kind → Bool
  both_clear node fault = clears_at2 p g (packs_with p packs) node (a.cells node) (a.matrices node) fault

  -- without packs there is no second layer
  abbrev pub pack_layers : List (List ℕ) → List (ℕ → Kind → Bool)
  pack_layers [] = []
  pack_layers (pack ∷ more) = both_clear ∷ []

  -- some layer of the assignment clears the fault at the node
  abbrev pub clears : ℕ → Kind → Bool
  clears node fault = some_layer_clears (cells_clear p g a ∷ pack_layers packs) node fault

  -- the faults that some node of a statement doesn't clear, by statement, then by kind
  abbrev pub open_pairs : List Open
  open_pairs = pairs_by g clears p.statements
