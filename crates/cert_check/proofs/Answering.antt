-- The answers of a check, from what the pass and the nodes say.
use Rattle.std.proofs.Common.{◌≡◌, ℕ, List, [], Bool, slice_get, Some, ℤ, sym, subst}
use Rattle.cob_tree.specs.declared.fault.Kind.{Kind}
use Rattle.cob_tree.specs.declared.fault.Open.{Open}
use Rattle.cob_program.specs.Act.{Program}
use Rattle.cob_graph.specs.declared.graph.Graph.{Graph}
use Rattle.cert_text.specs.View.{Certificate}
use Rattle.interval_domain.specs.declared.bounds.Interval.{Interval}
use Rattle.dom_laws.specs.Flow.{IsInductive}
use Rattle.dom_laws.specs.Leaks.{HasElements, IsFirstLeak}
use Rattle.interval_domain.specs.Rows.{cells_lattice}
use Rattle.cert_text.specs.declared.gap.Gap.{Gap}
use Rattle.cert_text.specs.Claims.{claimed_row, place_at}
use Rattle.graph_runs.specs.Sources.{IsSourceGraph}
use Rattle.cell_steps.specs.OwnRanges.{owns}
use Rattle.cell_laws.specs.Layer.{cell_flow, cell_meaning}
use Rattle.cert_check.specs.declared.ends.CheckEnd.TheVariants as check
use Rattle.cert_check.specs.Assignments.{Assignment, clears}
use Rattle.cert_check.specs.Assignments as assignment
use Rattle.cert_check.specs.Claims.{assignment_of, edge_gaps, row_at}
use Rattle.cert_check.specs.Clearing.{TestsTell}
use Rattle.cert_check.specs.Checking.{HasShape, Accepts, Refuses}
use Rattle.cert_check.proofs.Asking.{claimed_element, claimed_means}
use Rattle.cert_check.proofs.BoundsKept.{no_other_leaks}
use Rattle.cert_check.proofs.LayerLaws.{layer_laws}
use Rattle.cert_check.proofs.Layers.{cells_show}
use Rattle.cert_check.proofs.Leaking.{leaks_first, no_leaks}

module _ (p : Program) (g : Graph) (c : Certificate) (lists : List (List ℤ)) (ranges : List Interval) (same : ranges ≡ owns p) where
  abbrev claimed_rows : ℕ → List ℤ
  claimed_rows node = claimed_row ranges (place_at c node)

  pub have_elements : HasElements (cells_lattice (owns p) lists) (cell_flow p g) claimed_rows
  have_elements node is = claimed_element p g c ranges same lists node

  module _ (source : ∥ IsSourceGraph p g ∥₁) (shape : HasShape p g c) where
    pub refuses : (e : ℕ) (gap : Gap) → IsFirstLeak (cells_lattice (owns p) lists) (cell_flow p g) (row_at p g c) e →
        slice_get (edge_gaps p g c e) 0 ≡ Some gap → Refuses p g c (check.NotInductive 1 e gap)
    refuses e gap leak first = (shape, leaks_first p g c lists (layer_laws p g source) e gap leak first)

    -- a certificate without packs
    module _ (plain : c.packs ≡ []) where
      pub accepts : (pairs : List Open) → IsInductive (cells_lattice (owns p) lists) (cell_flow p g) (row_at p g c) →
          ((packs : List (List ℕ)) (a : Assignment) → TestsTell (cell_flow p g) (cell_meaning p g) claimed_rows (clears p g packs a)
          → pairs ≡ assignment.open_pairs p g packs a) → Accepts p g c pairs
      accepts pairs inductive are = record {
        shape = shape;
        inductive = no_other_leaks p g c plain (no_leaks p g c lists (layer_laws p g source) inductive);
        pairs_are =
            are c.packs (assignment_of p g c)
            (cells_show p g c.packs (assignment_of p g c) claimed_rows (λ node first last. claimed_means p g c ranges same node) plain);
      }
