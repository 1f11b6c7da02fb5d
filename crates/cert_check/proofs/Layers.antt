-- What the layers of an assignment clear, and rows of each layer that show it.
use Rattle.std.proofs.Common.{◌≡◌, ◌≢◌, ℕ, ◌≤◌, ◌==◌, List, [], ◌∷◌, length, Bool, true, false, Some, None, ℤ, refl, sym, ◌∙◌}
use Rattle.std.specs.Prelude.{◌||◌, not}
use Rattle.cob_tree.specs.declared.fault.Kind.{Kind}
use Rattle.cob_program.specs.Act.{Program}
use Rattle.cob_graph.specs.declared.graph.Edge.{Edge}
use Rattle.cob_graph.specs.declared.graph.Graph.{Graph}
use Rattle.interval_domain.specs.Known.{Known}
use Rattle.interval_domain.specs.Elements.{Element}
use Rattle.interval_domain.specs.Rows.{element_of}
use Rattle.cell_laws.specs.Layer.{edge_clears, leaves_clear, clears_at, cell_flow, cell_meaning}
use Rattle.cell_laws.proofs.Clears.{all_kept}
use Rattle.cell_laws.proofs.OperandsRise.{or_rises}
use Rattle.diff_bounds.specs.PackRows.{matrices_in}
use Rattle.diff_layer.proofs.ClearedByCells.{cleared_by_cells}
use Rattle.diff_steps.specs.Packs.{Pack}
use Rattle.pack_laws.specs.Layer.{edge_clears2, leaves_clear2, clears_at2, sizes_of, diff_flow, diff_meaning}
use Rattle.cert_check.specs.OpenPairs.{some_layer_clears}
use Rattle.cert_check.specs.Assignments.{Assignment, packs_with, cells_clear, both_clear, pack_layers, clears}
use Rattle.cert_check.specs.Clearing.{TestsTell}

-- ---- both layers clear what the first one clears

module _ (p : Program) (g : Graph) (packs : List Pack) (fault : Kind) (cells : List Known) (ms : List (List ℤ)) where
  leaving_clears : (node : ℕ) (x : Edge) → leaves_clear p g node fault cells x ≡ true → leaves_clear2 p g packs node fault cells ms x ≡ true
  leaving_clears node x e =
      or_rises (not (x.from == node)) (edge_clears p g fault cells x) (not (x.from == node)) (edge_clears2 p g packs fault cells ms x) (λ f. f)
      (cleared_by_cells p packs fault g cells ms x) e

pub both_clear_too : (p : Program) (g : Graph) (packs : List Pack) (node : ℕ) (element : Element) (ms : List (List ℤ)) (fault : Kind) →
    clears_at p g node element fault ≡ true → clears_at2 p g packs node element ms fault ≡ true
both_clear_too p g packs node None ms fault e = refl
both_clear_too p g packs node (Some cells) ms fault e =
    all_kept (leaves_clear p g node fault cells) (leaves_clear2 p g packs node fault cells ms) (leaving_clears p g packs fault cells ms node) g.edges e

-- ---- the layers of an assignment

or_none : (b : Bool) → (b || false) ≡ b
or_none true = refl
or_none false = refl

or_more : (a b : Bool) → (a ≡ true → b ≡ true) → (a || (b || false)) ≡ b
or_more true b h = sym (h refl)
or_more false b h = or_none b

module _ (p : Program) (g : Graph) (packs : List (List ℕ)) (a : Assignment) where
  -- some layer clears the fault, where the packs are these
  abbrev clears_with : List (List ℕ) → ℕ → Kind → Bool
  clears_with ps node fault = some_layer_clears (cells_clear p g a ∷ pack_layers p g packs a ps) node fault

  alone : (ps : List (List ℕ)) → ps ≡ [] → (node : ℕ) (fault : Kind) → clears_with ps node fault ≡ cells_clear p g a node fault
  alone [] none node fault = or_none (cells_clear p g a node fault)
  alone (pack ∷ ps) none node fault = absurd (cc none)

  together : (ps : List (List ℕ)) → ps ≢ [] → (node : ℕ) (fault : Kind) → clears_with ps node fault ≡ both_clear p g packs a node fault
  together [] some node fault = absurd (some refl)
  together (pack ∷ ps) some node fault =
      or_more (cells_clear p g a node fault) (both_clear p g packs a node fault)
      (both_clear_too p g (packs_with p packs) node (a.cells node) (a.matrices node) fault)

  -- without packs the first layer clears alone
  pub clears_alone : packs ≡ [] → (node : ℕ) (fault : Kind) → clears p g packs a node fault ≡ cells_clear p g a node fault
  clears_alone none node fault = alone packs none node fault

  -- with packs both clear together
  pub clears_together : packs ≢ [] → (node : ℕ) (fault : Kind) → clears p g packs a node fault ≡ both_clear p g packs a node fault
  clears_together some node fault = together packs some node fault

  -- what the first layer clears some layer does
  pub clears_first : (node : ℕ) (fault : Kind) → cells_clear p g a node fault ≡ true → clears p g packs a node fault ≡ true
  clears_first node fault e = λ i. e i || some_layer_clears (pack_layers p g packs a packs) node fault

  -- ---- rows that show what the assignment clears

  abbrev ps : List Pack
  ps = packs_with p packs

  pub cells_show : (rows : ℕ → List ℤ) → ((node : ℕ) → 1 ≤ node → node ≤ length g.nodes → element_of (rows node) ≡ a.cells node) →
      packs ≡ [] → TestsTell (cell_flow p g) (cell_meaning p g) rows (clears p g packs a)
  cells_show rows same none node fault is =
      let moved : clears_at p g node (element_of (rows node)) fault ≡ clears p g packs a node fault =
      (λ i. clears_at p g node (same node is.first is.last i) fault) ∙ sym (clears_alone none node fault) in
      (λ e. sym moved ∙ e, λ e. moved ∙ e)

  pub packs_show : (facts rows : ℕ → List ℤ) → ((node : ℕ) → 1 ≤ node → node ≤ length g.nodes → element_of (facts node) ≡ a.cells node) →
      ((node : ℕ) → 1 ≤ node → node ≤ length g.nodes → matrices_in (sizes_of ps) (rows node) ≡ a.matrices node) → packs ≢ [] →
      TestsTell (diff_flow p g ps facts) (diff_meaning p g ps facts) rows (clears p g packs a)
  packs_show facts rows cells matrices some node fault is =
      let moved : clears_at2 p g ps node (element_of (facts node)) (matrices_in (sizes_of ps) (rows node)) fault ≡ clears p g packs a node fault =
      (λ i. clears_at2 p g ps node (cells node is.first is.last i) (matrices node is.first is.last i) fault) ∙ sym (clears_together some node fault) in
      (λ e. sym moved ∙ e, λ e. moved ∙ e)
