-- What the analysis finds.
use Rattle.std.specs.Prelude.{◌≡◌, List, length}
use Rattle.cob_tree.specs.declared.fault.Open.{Open}
use Rattle.cob_program.specs.Act.{Program}
use Rattle.cob_graph.specs.declared.graph.Graph.{Graph}
use Rattle.cob_graph.specs.Graphs.{cells_of}
use Rattle.dom_laws.specs.Flow.{IsDominated}
use Rattle.interval_domain.specs.Rows.{cells_lattice}
use Rattle.cell_steps.specs.OwnRanges.{owns}
use Rattle.cell_laws.specs.Layer.{cell_flow}
use Rattle.cert_text.specs.View.{Certificate}
use Rattle.cert_check.specs.Assignments.{Assignment, cells_row, matrices_row, open_pairs}
use Rattle.analyse_core.specs.Choice.{packs_of}
use Rattle.analyse_core.specs.Thresholds.{thresholds_of}
use Rattle.analyse_core.specs.Packs.{ArePacksReady, pack_lattice, pack_flow}
use Rattle.analyse_core.specs.Assignments.{KeepsCells, KeepsMatrices}
use Rattle.analyse_core.specs.Certificates.{certificate_for}

module _ (p : Program) (g : Graph) where
  -- the edges keep what is found of cells, and it lies below all that they keep and that widening leaves at the heads
  pub record AreFoundCells (a : Assignment) : Type 0 where
    pub kept : KeepsCells p g a
    pub dominated : IsDominated (cells_lattice (owns p) (thresholds_of p)) (cell_flow p g) (cells_row p a)

  -- so are the matrices, beside what is found of cells
  pub record AreFoundBounds (a : Assignment) : Type 0 where
    pub kept : KeepsMatrices p g a
    pub dominated : IsDominated (pack_lattice p) (pack_flow p g (cells_row p a)) (matrices_row a)

  -- the certificate is that of an assignment that is found, and the pairs are what this leaves open
  pub record IsFound (c : Certificate) (pairs : List Open) : Type 0 where
    pub assignment : Assignment
    pub ready : ArePacksReady p
    pub cells_found : AreFoundCells assignment
    pub bounds_found : AreFoundBounds assignment
    pub is : c
        ≡ certificate_for (length (cells_of p)) (packs_of p) (length g.nodes) assignment.cells (matrices_row assignment)
    pub pairs_are : pairs ≡ open_pairs p g (packs_of p) assignment
