-- Solved rows give an assignment that is found.
use Rattle.std.proofs.Common.{◌≡◌, ℕ, ◌≤◌, List, [], length, ℤ, sym, ap, ◌∙◌}
use Rattle.std.proofs.lemmas.List.{length-map}
use Rattle.cob_program.specs.Act.{Program}
use Rattle.cob_graph.specs.declared.graph.Graph.{Graph}
use Rattle.graph_runs.specs.Sources.{IsSourceGraph}
use Rattle.dom_laws.specs.Lattice.{Lattice}
use Rattle.dom_laws.specs.Flow.{Flow, IsNode, IsFlow}
use Rattle.interval_domain.specs.Rows.{cells_lattice}
use Rattle.cell_steps.specs.OwnRanges.{owns}
use Rattle.cell_laws.specs.Layer.{cell_flow}
use Rattle.diff_bounds.specs.PackRows.{matrices_in, width_of}
use Rattle.diff_bounds.specs.declared.Pack as declared
use Rattle.cert_text.specs.MatrixClaims.{cells_in}
use Rattle.cert_text.specs.MatrixClaims as matrices
use Rattle.diff_layer.proofs.Rows.{row_back, width_is}
use Rattle.diff_steps.specs.Packs.{size_of}
use Rattle.pack_laws.specs.Layer.{AreFacts, sizes_of}
use Rattle.cert_check.specs.Assignments.{Assignment, cells_row, matrices_row}
use Rattle.cert_check.proofs.BoundsKept.{sizes_are}
use Rattle.cert_check.proofs.LayerLaws.{layer_laws}
use Rattle.analyse_core.specs.Choice.{packs_of}
use Rattle.analyse_core.specs.Thresholds.{thresholds_of}
use Rattle.analyse_core.specs.Packs.{ArePacksReady, packs_for, pack_lists, pack_lattice, pack_flow}
use Rattle.analyse_core.specs.Assignments.{KeepsCells}
use Rattle.analyse_core.specs.Solved.{AreSolvedBounds, AreSolvedCells, solved}
use Rattle.analyse_core.specs.Found.{AreFoundBounds, AreFoundCells}
use Rattle.analyse_core.proofs.PackClaims.{flows, listed}
use Rattle.analyse_core.proofs.SameRows.{AreSame, LeavesNodes, dominated_same, facts_dominated, facts_inductive, inductive_same}

module _ (p : Program) (g : Graph) (source : ∥ IsSourceGraph p g ∥₁) (ready : ArePacksReady p) (rows bounds : ℕ → List ℤ)
    (cells : AreSolvedCells p g rows) (beside : AreSolvedBounds p g rows bounds) where
  abbrev a : Assignment
  a = solved p rows bounds

  abbrev cells_order : Lattice
  cells_order = cells_lattice (owns p) (thresholds_of p)

  cells_flows : IsFlow cells_order (cell_flow p g)
  cells_flows = (layer_laws p g source).flows (thresholds_of p)

  same_cells : (node : ℕ) → IsNode (cell_flow p g) node → rows node ≡ cells_row p a node
  same_cells node is = (cells.inductive.elements node is).formed.said

  keeps_cells : KeepsCells p g a
  keeps_cells = record {
    fits = λ node is. (cells.inductive.elements node is).formed.fits;
    inductive = inductive_same cells_order (cell_flow p g) cells_flows rows (cells_row p a) same_cells cells.inductive;
  }

  pub cells_found : AreFoundCells p g a
  cells_found = record {
    kept = keeps_cells;
    dominated = dominated_same cells_order (cell_flow p g) cells_flows rows (cells_row p a) same_cells cells.dominated;
  }

  -- ---- matrices

  abbrev sizes : List ℕ
  sizes = sizes_of (packs_for p)

  abbrev flow : Flow
  flow = pack_flow p g (cells_row p a)

  its_facts : AreFacts p g (cells_row p a)
  its_facts node first last = (keeps_cells.inductive.elements node (record { first = first; last = last })).formed

  its_flows : IsFlow (pack_lattice p) flow
  its_flows = flows p g source ready (cells_row p a) its_facts

  leaves : LeavesNodes g
  leaves e first last = let is = cells_flows.source_node e (record { first = first; last = last }) in (is.first, is.last)

  same_facts : AreSame g rows (cells_row p a)
  same_facts node first last = same_cells node (record { first = first; last = last })

  width_there : (node : ℕ) → 1 ≤ node → node ≤ length g.nodes → length (bounds node) ≡ width_of sizes
  width_there node first last =
      (beside.inductive.elements node (record { first = first; last = last })).width
      ∙ width_is sizes (pack_lists p) (listed p g source ready ∙ sym (length-map (packs_for p) size_of))

  -- the width as the packs of the code tell it
  pub width_found : (packs : List declared.Pack) → cells_in packs ≡ packs_of p → (node : ℕ) → 1 ≤ node → node ≤ length g.nodes →
      length (bounds node) ≡ width_of (matrices.sizes_of (cells_in packs))
  width_found packs same node first last =
      width_there node first last
      ∙ ap width_of (sizes_are p g (record { cells = 0; packs = packs_of p; nodes = [] }) ∙ ap matrices.sizes_of (sym same))

  pub same_bounds : (node : ℕ) → 1 ≤ node → node ≤ length g.nodes → bounds node ≡ matrices_row a node
  same_bounds node first last = sym (row_back sizes (bounds node) (width_there node first last))

  pub bounds_found : AreFoundBounds p g a
  bounds_found = record {
    kept = record {
      fits = λ node is. ap (matrices_in sizes) (sym (same_bounds node is.first is.last));
      inductive =
          inductive_same (pack_lattice p) flow its_flows bounds (matrices_row a) (λ node is. same_bounds node is.first is.last)
          (facts_inductive p g (packs_for p) (pack_lattice p) leaves rows (cells_row p a) same_facts bounds beside.inductive);
    };
    dominated =
        dominated_same (pack_lattice p) flow its_flows bounds (matrices_row a) (λ node is. same_bounds node is.first is.last)
        (facts_dominated p g (packs_for p) (pack_lattice p) leaves rows (cells_row p a) same_facts bounds beside.dominated);
  }
