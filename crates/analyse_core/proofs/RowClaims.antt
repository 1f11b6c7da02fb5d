-- The certificate of an assignment whose cells the edges keep: its claims of cells say what the assignment does.
use Rattle.std.proofs.Common.{◌≡◌, ℕ, ◌≤◌, List, [], length, ℤ, refl, sym, ap, ◌∙◌, arith}
use Rattle.std.specs.List.{range_with_len}
use Rattle.std.proofs.lemmas.List.{length-map}
use Rattle.std.proofs.lemmas.List.FromFn.{length-range_with_len}
use Rattle.cob_program.specs.Act.{Program}
use Rattle.cob_graph.specs.declared.graph.Graph.{Graph}
use Rattle.cob_graph.specs.Graphs.{cells_of}
use Rattle.graph_runs.specs.Sources.{IsSourceGraph}
use Rattle.dom_laws.specs.Lattice.{Lattice}
use Rattle.dom_laws.specs.Flow.{Flow, IsNode, IsInductive}
use Rattle.interval_domain.specs.Rows.{cells_lattice, element_of}
use Rattle.interval_domain.proofs.Rows.{element_back}
use Rattle.cell_steps.specs.OwnRanges.{owns}
use Rattle.cell_laws.specs.Layer.{cell_flow, row_for}
use Rattle.cert_text.specs.View.{Certificate}
use Rattle.cert_text.specs.Claims.{claimed_element, place_at}
use Rattle.cert_text.specs.MatrixClaims.{sizes_of}
use Rattle.cert_check.specs.Assignments.{Assignment, cells_row, matrices_row}
use Rattle.cert_check.specs.Claims.{cell_leaks, claims_at, row_at}
use Rattle.cert_check.specs.Checking.{HasShape}
use Rattle.cert_check.proofs.LayerLaws.{LayerLaws, layer_laws}
use Rattle.cert_check.proofs.Leaking.{no_leaks}
use Rattle.analyse_core.specs.Thresholds.{thresholds_of}
use Rattle.analyse_core.specs.Assignments.{KeepsCells}
use Rattle.analyse_core.specs.Certificates.{certificate_for, place_for}
use Rattle.analyse_core.proofs.Claiming.{claimed_is, place_is}
use Rattle.analyse_core.proofs.SameRows.{inductive_same}

module _ (p : Program) (g : Graph) (packs : List (List ℕ)) (a : Assignment) where
  abbrev pub certificate : Certificate
  certificate = certificate_for (length (cells_of p)) packs (length g.nodes) a.cells (matrices_row a)

  module _ (source : ∥ IsSourceGraph p g ∥₁) (kept : KeepsCells p g a) where
    abbrev lattice : Lattice
    lattice = cells_lattice (owns p) (thresholds_of p)

    abbrev flow : Flow
    flow = cell_flow p g

    laws : LayerLaws p g
    laws = layer_laws p g source

    pub cells_back : (node : ℕ) → IsNode flow node → element_of (cells_row p a node) ≡ a.cells node
    cells_back node is = element_back (owns p) (a.cells node) (kept.fits node is)

    pub place_there : (node : ℕ) → IsNode flow node → place_at certificate node ≡ place_for (sizes_of packs) (a.cells node) (matrices_row a node)
    place_there node is = place_is (sizes_of packs) (length g.nodes) a.cells (matrices_row a) node is.first is.last

    pub claims_there : (node : ℕ) → IsNode flow node → a.cells node ≡ claims_at p g certificate node
    claims_there node is =
        sym (ap (claimed_element (owns p)) (place_there node is)
        ∙ claimed_is (sizes_of packs) (owns p) (a.cells node) (matrices_row a node) (kept.fits node is))

    pub row_there : (node : ℕ) → IsNode flow node → row_at p g certificate node ≡ cells_row p a node
    row_there node is = ap (row_for p) (sym (claims_there node is))

    pub first_node : IsNode flow 1
    first_node = let some = (laws.flows (thresholds_of p)).has_node in record { first = omega arith; last = some }

    rows_inductive : IsInductive lattice flow (row_at p g certificate)
    rows_inductive =
        inductive_same lattice flow (laws.flows (thresholds_of p)) (cells_row p a) (row_at p g certificate) (λ node is. sym (row_there node is))
        kept.inductive

    pub shape : HasShape p g certificate
    shape = record {
      cells = refl;
      nodes =
          length-map (range_with_len 1 (length g.nodes)) (λ node. place_for (sizes_of packs) (a.cells node) (matrices_row a node))
          ∙ length-range_with_len 1 (length g.nodes);
    }

    pub no_cell_leaks : cell_leaks p g certificate ≡ []
    no_cell_leaks = no_leaks p g certificate (thresholds_of p) laws rows_inductive
