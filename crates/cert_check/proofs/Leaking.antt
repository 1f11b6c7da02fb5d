-- The first edge that doesn't keep the claimed rows has the first leak.
use Rattle.std.proofs.Common.{◌≡◌, ◌↔◌, ℕ, zero, suc, ◌≤◌, List, [], length, slice_get, Option, Some, None, ℤ, refl, sym, ap, ◌∙◌, subst}
use Rattle.cob_program.specs.Act.{Program}
use Rattle.cob_graph.specs.declared.graph.Graph.{Graph}
use Rattle.cert_text.specs.View.{Certificate, Place}
use Rattle.dom_laws.specs.Flow.{IsInductive}
use Rattle.interval_domain.specs.declared.bounds.Interval.{Interval}
use Rattle.cert_text.specs.Gaps.{gaps}
use Rattle.interval_domain.specs.Elements.{Element, ElementFits, ElementBelow}
use Rattle.interval_domain.specs.Rows.{element_of, row_from, width_of, cells_lattice}
use Rattle.interval_domain.proofs.Rows.{element_back}
use Rattle.cert_text.specs.declared.gap.Gap.{Gap}
use Rattle.cert_text.specs.Claims.{place_at}
use Rattle.cert_text.proofs.Telling.{gaps_tell}
use Rattle.graph_runs.specs.Places.{edge_at}
use Rattle.cell_steps.specs.OwnRanges.{owns}
use Rattle.cell_laws.specs.Layer.{post_at, cell_flow}
use Rattle.cert_check.specs.Assignments.{leak, leads_to, comes_along}
use Rattle.cert_check.specs.Claims.{leaks, cell_leaks, pack_leaks, edge_gaps, assignment_of, claims_at, row_at}
use Rattle.dom_laws.specs.Leaks.{Keeps, IsFirstLeak}
use Rattle.cert_check.specs.Along.{led_to, arrives}
use Rattle.cert_check.proofs.FirstLeaks.{none_leak, keeps_all, leaks_here, has_a_gap, first_behind}
use Rattle.cell_ranges.proofs.Claims.{claims_fit}
use Rattle.cert_check.proofs.Accepting.{claimed, claimed_back}
use Rattle.cert_check.proofs.LayerLaws.{LayerLaws}

module _ (p : Program) (g : Graph) (c : Certificate) (thresholds : List (List ℤ)) (laws : LayerLaws p g) where
  abbrev comes : ℕ → Element
  comes e = comes_along p g (assignment_of p g c) e

  comes_fits : (e : ℕ) → ElementFits (owns p) (comes e)
  comes_fits zero = laws.entry_fits
  comes_fits (suc e) = laws.post_fits (suc e) (claims_at p g c (edge_at g (suc e)).from) (claims_fit (owns p) (place_at c (edge_at g (suc e)).from))

  -- the row that comes along an edge
  arrives_is : (e : ℕ) → arrives (cell_flow p g) (row_at p g c) e ≡ row_from (width_of (owns p)) (comes e)
  arrives_is zero = refl
  arrives_is (suc e) =
      ap (λ (x : Element). row_from (width_of (owns p)) (post_at p g (suc e) x)) (claimed_back p g c thresholds (edge_at g (suc e)).from)

  pub arrived : (e : ℕ) → element_of (arrives (cell_flow p g) (row_at p g c) e) ≡ comes e
  arrived e = ap element_of (arrives_is e) ∙ element_back (owns p) (comes e) (comes_fits e)

  leads_is : (e : ℕ) → led_to (cell_flow p g) e ≡ leads_to g e
  leads_is zero = refl
  leads_is (suc e) = refl

  -- the edge keeps the rows
  abbrev KeepsAt : ℕ → Type 0
  KeepsAt e = Keeps (cells_lattice (owns p) thresholds) (cell_flow p g) (row_at p g c) e

  below_of : (e : ℕ) → KeepsAt e → ElementBelow (element_of (arrives (cell_flow p g) (row_at p g c) e)) (element_of (row_at p g c (led_to (cell_flow p g) e)))
  below_of zero keeps = keeps
  below_of (suc e) keeps = keeps

  of_below : (e : ℕ) → ElementBelow (element_of (arrives (cell_flow p g) (row_at p g c) e)) (element_of (row_at p g c (led_to (cell_flow p g) e))) → KeepsAt e
  of_below zero below = below
  of_below (suc e) below = below

  there_is : (e : ℕ) → element_of (row_at p g c (led_to (cell_flow p g) e)) ≡ claims_at p g c (leads_to g e)
  there_is e = ap (λ n. element_of (row_at p g c n)) (leads_is e) ∙ claimed_back p g c thresholds (leads_to g e)

  -- an edge that keeps the rows has no gap, and one that has none keeps them
  kept_no_gaps : (e : ℕ) → KeepsAt e → edge_gaps p g c e ≡ []
  kept_no_gaps e keeps =
      (gaps_tell (owns p) (comes e) (place_at c (leads_to g e)) (comes_fits e)).1
      (subst (λ x. ElementBelow x (claims_at p g c (leads_to g e))) (arrived e)
      (subst (ElementBelow (element_of (arrives (cell_flow p g) (row_at p g c) e))) (there_is e) (below_of e keeps)))

  no_gaps_kept : (e : ℕ) → edge_gaps p g c e ≡ [] → KeepsAt e
  no_gaps_kept e none =
      of_below e
      (subst (ElementBelow (element_of (arrives (cell_flow p g) (row_at p g c) e))) (sym (there_is e))
      (subst (λ x. ElementBelow x (claims_at p g c (leads_to g e))) (sym (arrived e))
      ((gaps_tell (owns p) (comes e) (place_at c (leads_to g e)) (comes_fits e)).0 none)))

  gaps_tell_all : (e : ℕ) → e ≤ length g.edges → (edge_gaps p g c e ≡ []) ↔ KeepsAt e
  gaps_tell_all e last = (no_gaps_kept e, kept_no_gaps e)

  pub no_leaks : IsInductive (cells_lattice (owns p) thresholds) (cell_flow p g) (row_at p g c) → cell_leaks p g c ≡ []
  no_leaks is = none_leak g 1 (edge_gaps p g c) (cells_lattice (owns p) thresholds) (cell_flow p g) (row_at p g c) refl gaps_tell_all is

  pub kept_where_no_leaks : cell_leaks p g c ≡ [] → IsInductive (cells_lattice (owns p) thresholds) (cell_flow p g) (row_at p g c)
  kept_where_no_leaks none =
      keeps_all g 1 (edge_gaps p g c) (cells_lattice (owns p) thresholds) (cell_flow p g) (row_at p g c) refl gaps_tell_all
      (λ node is. claimed p g c thresholds node) none

  pub leaks_first : (e : ℕ) (gap : Gap) → IsFirstLeak (cells_lattice (owns p) thresholds) (cell_flow p g) (row_at p g c) e →
      slice_get (edge_gaps p g c e) 0 ≡ Some gap → slice_get (leaks p g c) 0 ≡ Some (leak 1 e gap)
  leaks_first e gap is first =
      first_behind (cell_leaks p g c) (pack_leaks p g c) (leak 1 e gap)
      (leaks_here g 1 (edge_gaps p g c) (cells_lattice (owns p) thresholds) (cell_flow p g) (row_at p g c) refl gaps_tell_all e gap is first)

  -- the first gap at the node that an edge leads to
  module _ (e : ℕ) (ranges : List Interval) (row : List ℤ) (place : Place) (same : ranges ≡ owns p)
      (row_is : row ≡ arrives (cell_flow p g) (row_at p g c) e) (place_is : place ≡ place_at c (led_to (cell_flow p g) e)) where
    pub first_gap_is : (first : Option Gap) → first ≡ slice_get (gaps (length ranges) (element_of row) place) 0 →
        slice_get (edge_gaps p g c e) 0 ≡ first
    first_gap_is first h =
        sym (h
        ∙ ap (λ os. slice_get (gaps (length os) (element_of row) place) 0) same
        ∙ ap (λ x. slice_get (gaps (length (owns p)) x place) 0) (ap element_of row_is ∙ arrived e)
        ∙ ap (λ y. slice_get (gaps (length (owns p)) (comes e) y) 0) (place_is ∙ ap (place_at c) (leads_is e)))

    pub there_is_a_gap : (first : Option Gap) → first ≡ slice_get (gaps (length ranges) (element_of row) place) 0 → first ≡ None →
        IsFirstLeak (cells_lattice (owns p) thresholds) (cell_flow p g) (row_at p g c) e → ⊥
    there_is_a_gap first h none leak_ =
        has_a_gap g 1 (edge_gaps p g c) (cells_lattice (owns p) thresholds) (cell_flow p g) (row_at p g c) refl gaps_tell_all e leak_
        (first_gap_is first h ∙ none)
