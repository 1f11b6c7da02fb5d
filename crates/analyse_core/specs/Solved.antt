-- Rows as the solver leaves them: the edges keep them, and they lie below all such rows that widening leaves at heads.
use Rattle.std.specs.Prelude.{ℕ, List, ℤ}
use Rattle.cob_program.specs.Act.{Program}
use Rattle.cob_graph.specs.declared.graph.Graph.{Graph}
use Rattle.dom_laws.specs.Flow.{IsInductive, IsDominated}
use Rattle.interval_domain.specs.Rows.{cells_lattice, element_of}
use Rattle.cell_steps.specs.OwnRanges.{owns}
use Rattle.cell_laws.specs.Layer.{cell_flow}
use Rattle.diff_bounds.specs.PackRows.{matrices_in}
use Rattle.pack_laws.specs.Layer.{sizes_of}
use Rattle.cert_check.specs.Assignments.{Assignment}
use Rattle.analyse_core.specs.Thresholds.{thresholds_of}
use Rattle.analyse_core.specs.Packs.{packs_for, pack_lattice, pack_flow}

module _ (p : Program) (g : Graph) where
  pub record AreSolvedCells (rows : ℕ → List ℤ) : Type 0 where
    pub inductive : IsInductive (cells_lattice (owns p) (thresholds_of p)) (cell_flow p g) rows
    pub dominated : IsDominated (cells_lattice (owns p) (thresholds_of p)) (cell_flow p g) rows

  -- rows of matrices, beside these rows of cells
  pub record AreSolvedBounds (rows bounds : ℕ → List ℤ) : Type 0 where
    pub inductive : IsInductive (pack_lattice p) (pack_flow p g rows) bounds
    pub dominated : IsDominated (pack_lattice p) (pack_flow p g rows) bounds

-- the assignment of rows of both layers
abbrev pub solved : Program → (ℕ → List ℤ) → (ℕ → List ℤ) → Assignment
solved p rows bounds = record {
  cells = λ node. element_of (rows node);
  matrices = λ node. matrices_in (sizes_of (packs_for p)) (bounds node);
}
