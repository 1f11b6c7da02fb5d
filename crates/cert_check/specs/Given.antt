-- What the parts of a check are given.
use Rattle.std.specs.Prelude.{◌≡◌, ◌≤◌, ℕ, List, [], length, ℤ, Vec}
use Rattle.std.specs.List.{All, AllByRecursion}
use Rattle.std.specs.declared.alloc.Global.{Global}
use Rattle.cob_program.specs.Act.{Program}
use Rattle.cob_graph.specs.declared.graph.Graph.{Graph}
use Rattle.cob_graph.specs.Graphs.{cells_of}
use Rattle.cob_graph.specs.Limits.{most_cells, most_nodes}
use Rattle.cert_text.specs.View.{Certificate}
use Rattle.cert_text.specs.Allowed.{IsAllowed}
use Rattle.interval_domain.specs.declared.bounds.Interval.{Interval}
use Rattle.dom_laws.specs.Flow.{IsInductive}
use Rattle.dom_laws.specs.Leaks.{IsFirstLeak}
use Rattle.interval_domain.specs.Rows.{cells_lattice}
use Rattle.cert_text.specs.Gaps.{IsSmall}
use Rattle.graph_runs.specs.Sources.{IsSourceGraph}
use Rattle.cell_steps.specs.OwnRanges.{owns}
use Rattle.cell_laws.specs.Layer.{cell_flow}
use Rattle.pack_laws.specs.Layer.{diff_lattice, diff_flow}
use Rattle.cert_check.specs.Claims.{row_at, packs_at, bounds_row}

-- a source's graph, a certificate of its shape, and the own ranges of its cells
pub record IsGiven (p : Program) (g : Graph) (c : Certificate) (ranges : List Interval) : Type 0 where
  pub source : ∥ IsSourceGraph p g ∥₁
  pub allowed : IsAllowed c
  pub cells : c.cells ≡ length (cells_of p)
  pub nodes : length c.nodes ≡ length g.nodes
  pub few_nodes : length g.nodes ≤ most_nodes
  pub own : ranges ≡ owns p
  pub small : All IsSmall ranges
  pub few_cells : length ranges ≤ most_cells

module _ (p : Program) (g : Graph) (c : Certificate) (thresholds : List (List ℤ)) where
  -- the edges keep what is claimed of cells
  abbrev pub ClaimsAreKept : Type 0
  ClaimsAreKept = IsInductive (cells_lattice (owns p) thresholds) (cell_flow p g) (row_at p g c)

  -- the first edge that doesn't keep what is claimed of cells
  abbrev pub LeaksFirst : ℕ → Type 0
  LeaksFirst e = IsFirstLeak (cells_lattice (owns p) thresholds) (cell_flow p g) (row_at p g c) e

  -- the edges keep what is claimed of packs, beside what is claimed of cells
  abbrev pub BoundsAreKept : Type 0
  BoundsAreKept = IsInductive (diff_lattice (packs_at p g c) thresholds) (diff_flow p g (packs_at p g c) (row_at p g c)) (bounds_row p g c)

  abbrev pub BoundsLeakFirst : ℕ → Type 0
  BoundsLeakFirst e =
      IsFirstLeak (diff_lattice (packs_at p g c) thresholds) (diff_flow p g (packs_at p g c) (row_at p g c)) (bounds_row p g c) e

-- no thresholds for each of so many packs
pub record AreEmptyLists (packs : ℕ) (lists : List (Vec ℤ Global)) : Type 0 where
  pub many : length lists ≡ packs
  pub empty : AllByRecursion (λ list. list.items ≡ []) lists
