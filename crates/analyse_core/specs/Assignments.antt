-- Assignments whose heads have thresholds as ends and words, and that nothing is missed which they show.
use Rattle.std.specs.Prelude.{◌≡◌, ◌⊎◌, ◌+◌, ◌*◌, ◌/◌, ◌%◌, ◌<◌, ℕ, Bool, true, List, [], ◌∷◌, length, slice_index_or, None, Some, ℤ, pos}
use Rattle.std.specs.List.{Contains}
use Rattle.cob_tree.specs.declared.fault.Kind.{Kind}
use Rattle.cob_program.specs.Act.{Program}
use Rattle.cob_graph.specs.declared.graph.Graph.{Graph}
use Rattle.interval_domain.specs.Thresholds.{IsListed}
use Rattle.dom_laws.specs.Flow.{IsHead, IsInductive, IsNode, head_count}
use Rattle.interval_domain.specs.Known.{Known}
use Rattle.interval_domain.specs.Elements.{Element, ElementFits, height_of}
use Rattle.interval_domain.specs.Rows.{cells_lattice}
use Rattle.cert_text.specs.View.{Certificate}
use Rattle.cert_text.specs.Claims.{place_at, written_element}
use Rattle.graph_runs.specs.Sources.{IsSourceGraph}
use Rattle.cell_steps.specs.OwnRanges.{owns}
use Rattle.cell_laws.specs.Layer.{cell_flow}
use Rattle.diff_bounds.specs.Matrix.{none}
use Rattle.diff_bounds.specs.Widening as words
use Rattle.diff_bounds.specs.PackRows.{matrices_in, packs_lattice}
use Rattle.pack_laws.specs.Layer.{sizes_of}
use Rattle.analyse_core.specs.Choice.{packs_of}
use Rattle.cert_check.specs.OpenPairs.{open_at, is_cleared_by}
use Rattle.cert_check.specs.Assignments.{Assignment, cells_clear, cells_row, clears, matrices_row}
use Rattle.cert_check.specs.Claims.{assignment_of, cell_leaks, open_pairs}
use Rattle.analyse_core.specs.Thresholds.{thresholds_of}
use Rattle.analyse_core.specs.Packs.{packs_for, pack_lists, pack_lattice, pack_flow}

-- ---- thresholds as ends

abbrev pub HasListedEnds : List ℤ → Known → Type 0
HasListedEnds ts None = Unit {0}
HasListedEnds ts (Some i) = IsListed ts i.low × IsListed ts i.high

abbrev pub AreListed : List (List ℤ) → List Known → Type 0
AreListed [] [] = Unit {0}
AreListed (ts ∷ lists) (c ∷ cs) = HasListedEnds ts c × AreListed lists cs
AreListed _ _ = ⊥

-- the element is unreached, or all its ends are thresholds
abbrev pub IsListedElement : List (List ℤ) → Element → Type 0
IsListedElement lists None = Unit {0}
IsListedElement lists (Some cs) = AreListed lists cs

-- ---- thresholds as words

abbrev pub IsListedWord : List ℤ → ℤ → Type 0
IsListedWord ts x = (x ≡ none) ⊎ words.IsListed ts x

-- each word off the diagonal is a threshold or none
pub record HasListedWords (size : ℕ) (ts m : List ℤ) : Type 0 where
  pub each : (k : ℕ) → k < length m → ¬ (k / (size + 1) ≡ k % (size + 1)) → IsListedWord ts (slice_index_or m k (pos 0))

abbrev pub HaveListedWords : List ℕ → List (List ℤ) → List (List ℤ) → Type 0
HaveListedWords [] lists ms = Unit {0}
HaveListedWords (n ∷ ns) (ts ∷ lists) (m ∷ ms) = HasListedWords n ts m × HaveListedWords ns lists ms
HaveListedWords _ _ _ = ⊥

-- the row is the one that no run comes to, or all its words are thresholds or none
abbrev pub IsListedRow : List ℕ → List (List ℤ) → List ℤ → Type 0
IsListedRow sizes lists row = (row ≡ (packs_lattice sizes lists).least) ⊎ HaveListedWords sizes lists (matrices_in sizes row)

-- ---- assignments

module _ (p : Program) (g : Graph) where
  -- what it says of cells lies in their own ranges, and the edges keep it
  pub record KeepsCells (a : Assignment) : Type 0 where
    pub fits : (node : ℕ) → IsNode (cell_flow p g) node → ElementFits (owns p) (a.cells node)
    pub inductive : IsInductive (cells_lattice (owns p) (thresholds_of p)) (cell_flow p g) (cells_row p a)

  -- it has a matrix for each of the program's packs, and the edges keep them beside what it says of cells
  pub record KeepsMatrices (a : Assignment) : Type 0 where
    pub fits : (node : ℕ) → IsNode (cell_flow p g) node
        → matrices_in (sizes_of (packs_for p)) (matrices_row a node) ≡ a.matrices node
    pub inductive : IsInductive (pack_lattice p) (pack_flow p g (cells_row p a)) (matrices_row a)

  -- The edges keep what it says of cells, and go back to no node but where all ends are thresholds.
  pub record IsThresholdAssignment (a : Assignment) : Type 0 where
    pub kept : KeepsCells a
    pub heads : (node : ℕ) → IsHead (cell_flow p g) node → IsListedElement (thresholds_of p) (a.cells node)

  -- The edges keep its matrices, and go back to no node but where all words are thresholds or none.
  pub record IsPackAssignment (a : Assignment) : Type 0 where
    pub kept : KeepsMatrices a
    pub heads : (node : ℕ) → IsHead (cell_flow p g) node
        → IsListedRow (sizes_of (packs_for p)) (pack_lists p) (matrices_row a node)

  -- ---- what is cleared

  -- what an assignment says of cells shows at each node of the statement that there is no such fault
  abbrev pub is_cleared_in : Assignment → ℕ → Kind → Bool
  is_cleared_in a statement fault = is_cleared_by g (cells_clear p g a) statement fault

  -- What some such assignment clears at every node of a statement isn't open.
  abbrev pub MissesNothing : Certificate → Type 0
  MissesNothing c =
      (a : Assignment) → IsThresholdAssignment a → (statement : ℕ) (fault : Kind)
      → is_cleared_in a statement fault ≡ true → ¬ Contains (open_pairs p g c) (open_at statement fault)

  -- at each node of the statement some layer shows it
  abbrev pub is_cleared_by_both : Assignment → ℕ → Kind → Bool
  is_cleared_by_both a statement fault = is_cleared_by g (clears p g (packs_of p) a) statement fault

  -- What some such assignment of both layers clears at every node of a statement isn't open.
  abbrev pub MissesNothingTogether : Certificate → Type 0
  MissesNothingTogether c =
      (a : Assignment) → IsThresholdAssignment a → IsPackAssignment a → (statement : ℕ) (fault : Kind)
      → is_cleared_by_both a statement fault ≡ true → ¬ Contains (open_pairs p g c) (open_at statement fault)

  -- ---- steps

  -- steps of a layer: once over all edges, once more for each time that a head can grow, and once to see that none does
  abbrev pub layer_steps : ℕ → ℕ
  layer_steps height = length g.edges * (head_count (cell_flow p g) * height + 2)

  -- steps of the second layer
  abbrev pub pack_steps : List (List ℕ) → ℕ
  pack_steps [] = 0
  pack_steps (pack ∷ packs) = layer_steps (pack_lattice p).height

  abbrev pub most_steps : ℕ
  most_steps = layer_steps (height_of (thresholds_of p)) + pack_steps (packs_of p)

-- ---- certificates

-- What a certificate claims of cells is such an assignment, where it has no leak and where at each node to which an
-- edge goes back all ends are thresholds as they are written.
abbrev pub CertificatesAssign : Type 0
CertificatesAssign =
    (p : Program) (g : Graph) (c : Certificate) → ∥ IsSourceGraph p g ∥₁ → cell_leaks p g c ≡ []
    → ((node : ℕ) → IsHead (cell_flow p g) node
    → IsListedElement (thresholds_of p) (written_element (length (owns p)) (place_at c node)))
    → IsThresholdAssignment p g (assignment_of p g c)
