-- Claims of packs as rows of matrices, which the edges keep exactly where there are no gaps.
use Rattle.std.proofs.Common.{◌≡◌, ◌≢◌, ◌↔◌, ℕ, zero, suc, ◌≤◌, List, [], ◌∷◌, map, length, true, ◌++◌, slice_get, Option, Some, None, ℤ, refl, sym, ap, subst, ◌∙◌, take_at, drop_at, arith}
use Rattle.std.specs.List.{AllByRecursion}
use Rattle.std.proofs.Props.{props}
use Rattle.std.proofs.Math.Logic.{∥∥₁_elim}
use Rattle.std.proofs.lemmas.List.{length-map}
use Rattle.cob_tree.specs.declared.fault.Kind.{Kind}
use Rattle.cob_program.specs.Act.{Program}
use Rattle.cob_graph.specs.declared.graph.Graph.{Graph}
use Rattle.cob_graph.specs.Graphs.{cells_of}
use Rattle.dom_laws.specs.Lattice.{Lattice, IsElement}
use Rattle.dom_laws.specs.Flow.{Flow, IsNode, IsFlow, IsInductive}
use Rattle.dom_laws.specs.Meaning.{IsMeaning}
use Rattle.graph_runs.specs.Places.{edge_at}
use Rattle.graph_runs.specs.Sources.{IsSourceGraph}
use Rattle.interval_domain.specs.Rows.{element_of}
use Rattle.cob_graph.specs.Homes.{homes_of}
use Rattle.cell_steps.specs.OwnRanges.{owns}
use Rattle.cell_layer.proofs.FirstCells.{homes_many}
use Rattle.cert_text.specs.declared.cert.Bound.{Bound}
use Rattle.cert_text.specs.View.{Certificate, Place, NotReached, Holds}
use Rattle.cert_text.specs.Allowed.{IsAllowed}
use Rattle.cert_text.specs.Claims.{place_at}
use Rattle.cert_text.specs.declared.gap.Gap.{Gap}
use Rattle.diff_bounds.specs.Lattice.{matrix_of, bottom_word}
use Rattle.diff_bounds.specs.PackRows.{words_of, matrices_in, row_of, packs_lattice}
use Rattle.cert_text.specs.MatrixClaims.{claimed_matrix, claimed_matrices, claimed_word, least_matrices, matrices_from}
use Rattle.cert_text.specs.MatrixClaims as matrices
use Rattle.cert_text.specs.MatrixGaps as of_matrices
use Rattle.cert_text.proofs.MatrixFilling.{matrix_width}
use Rattle.cert_text.proofs.Standing.{rows_are_elements}
use Rattle.cert_text.proofs.MatrixTelling.{gaps_tell}
use Rattle.cert_text.proofs.Allowing.{claims_fit_there}
use Rattle.diff_steps.specs.Packs.{Pack, size_of}
use Rattle.pack_laws.specs.Layer.{AreFacts, ArePacks, sizes_of, diff_lattice, diff_flow, diff_meaning, packs_post}
use Rattle.pack_laws.specs.Packs.{home_at, pack_in}
use Rattle.pack_laws.proofs.Packed.{HasDistinctHomes, HasPlainItems}
use Rattle.pack_laws.proofs.Distinct.{homes_of_sources_are_distinct, sources_have_no_tables}
use Rattle.pack_laws.proofs.Flow.{packs_flow}
use Rattle.pack_laws.proofs.Meaning.{packs_mean}
use Rattle.dom_laws.specs.Leaks.{Keeps, IsFirstLeak}
use Rattle.cert_check.specs.declared.ends.Leak.{Leak}
use Rattle.cert_check.specs.Along.{led_to, arrives}
use Rattle.cert_check.specs.Checking.{HasShape}
use Rattle.cert_check.specs.Assignments.{leak, leads_to, matrices_along}
use Rattle.cert_check.specs.Claims.{assignment_of, leaks, cell_leaks, pack_leaks, row_at, packs_at, pack_sizes, bounds_at, bounds_row, pack_gaps, claims_clear}
use Rattle.cert_check.specs.Clearing.{TestsTell}
use Rattle.cert_check.proofs.Accepting.{claimed, claimed_back}
use Rattle.cert_check.proofs.Layers.{packs_show}
use Rattle.cert_check.proofs.FirstLeaks.{all_empty, none_leak, keeps_all, leaks_here, has_a_gap}
use Rattle.cert_check.proofs.PackNumbers.{packs_are_of, packs_are_few}

-- ---- the matrices in a row

one_back : (n : ℕ) (ns : List ℕ) (m : List ℤ) (ms : List (List ℤ)) → length m ≡ words_of n → matrices_in ns (row_of ms) ≡ ms →
    matrices_in (n ∷ ns) (row_of (m ∷ ms)) ≡ m ∷ ms
one_back n ns m ms wide rest =
    let front = take_at m (row_of ms) (words_of n) wide in
    let back = drop_at m (row_of ms) (words_of n) wide in
    (λ i. front i ∷ matrices_in ns (back i)) ∙ ap (λ (xs : List (List ℤ)). m ∷ xs) rest

least_back : (ns : List ℕ) → matrices_in ns (row_of (least_matrices ns)) ≡ least_matrices ns
least_back [] = refl
least_back (n ∷ ns) = one_back n ns (matrix_of n (bottom_word n)) (least_matrices ns) (matrix_width n (bottom_word n)) (least_back ns)

bounds_back : (pack : ℕ) (ns : List ℕ) (bounds : List Bound) → matrices_in ns (row_of (matrices_from pack ns bounds)) ≡ matrices_from pack ns bounds
bounds_back pack [] bounds = refl
bounds_back pack (n ∷ ns) bounds =
    one_back n ns (claimed_matrix bounds pack n) (matrices_from (suc pack) ns bounds) (matrix_width n (claimed_word bounds pack n))
    (bounds_back (suc pack) ns bounds)

matrices_back : (ns : List ℕ) (place : Place) → matrices_in ns (matrices.claimed_row ns place) ≡ claimed_matrices ns place
matrices_back ns NotReached = least_back ns
matrices_back ns (Holds claims bounds) = bounds_back 1 ns bounds

sizes_in : (p : Program) (packs : List (List ℕ)) → sizes_of (map (pack_in (homes_of p)) packs) ≡ matrices.sizes_of packs
sizes_in p [] = refl
sizes_in p (ns ∷ packs) = λ i. length-map ns (home_at (homes_of p)) i ∷ sizes_in p packs i

module _ (p : Program) (g : Graph) (c : Certificate) where
  pub sizes_are : sizes_of (packs_at p g c) ≡ pack_sizes p g c
  sizes_are = sizes_in p c.packs

  pub matrices_are : (node : ℕ) → matrices_in (sizes_of (packs_at p g c)) (bounds_row p g c node) ≡ bounds_at p g c node
  matrices_are node =
      ap (λ (ns : List ℕ). matrices_in ns (bounds_row p g c node)) sizes_are ∙ matrices_back (pack_sizes p g c) (place_at c node)

  -- each row of claims of cells is one of the first layer
  pub are_facts : AreFacts p g (row_at p g c)
  are_facts node first last = (claimed p g c [] node).formed

  -- without packs there are no leaks but those of cells
  pub no_other_leaks : c.packs ≡ [] → cell_leaks p g c ≡ [] → leaks p g c ≡ []
  no_other_leaks plain none =
      ap (λ (xs : List Leak). xs ++ pack_leaks p g c) none
      ∙ all_empty (λ e. map (leak 2 e) (pack_gaps p g c e)) 0 (suc (length g.edges))
      (λ e low high. ap (λ (ps : List (List ℕ)). map (leak 2 e) (of_matrices.gaps (matrices.sizes_of ps) (row_of (matrices_along p g c.packs (assignment_of p g c) e)) (bounds_row p g c (leads_to g e)))) plain)

  -- ---- what rows clear

  -- the claims tell what their rows clear
  pub packs_tell : c.packs ≢ [] → TestsTell (diff_flow p g (packs_at p g c) (row_at p g c)) (diff_meaning p g (packs_at p g c) (row_at p g c))
      (bounds_row p g c) (claims_clear p g c)
  packs_tell some =
      packs_show p g c.packs (assignment_of p g c) (row_at p g c) (bounds_row p g c) (λ node first last. claimed_back p g c [] node)
      (λ node first last. matrices_are node) some

  -- ---- a source's packs

  module _ (source : ∥ IsSourceGraph p g ∥₁) (shape : HasShape p g c) (allowed : IsAllowed c) (lists : List (List ℤ))
      (listed : length lists ≡ length c.packs) where
    abbrev packs : List Pack
    packs = packs_at p g c

    abbrev lattice : Lattice
    lattice = diff_lattice packs lists

    abbrev flow : Flow
    flow = diff_flow p g packs (row_at p g c)

    distinct : HasDistinctHomes p
    distinct j k h e f = ∥∥₁_elim source (hlevel props) (λ s. homes_of_sources_are_distinct p g s j k h e f)

    plain : HasPlainItems p.layout
    plain place = ∥∥₁_elim source (hlevel props) (λ s. sources_have_no_tables p g s place)

    pub are_packs : ArePacks p packs lists
    are_packs = record {
      cells = packs_are_of p c.cells (shape.cells ∙ sym (homes_many p)) distinct plain c.packs allowed.each_pack;
      few = packs_are_few p c.cells (shape.cells ∙ sym (homes_many p)) distinct plain c.packs allowed.each_pack;
      listed = listed ∙ sym (length-map c.packs (pack_in (homes_of p)));
    }

    pub flows : IsFlow lattice flow
    flows = packs_flow p g packs lists (row_at p g c) source are_packs are_facts

    pub means : IsMeaning lattice flow (diff_meaning p g packs (row_at p g c))
    means = packs_mean p g packs lists (row_at p g c) are_packs are_facts

    pub bounds_element : (node : ℕ) → IsElement lattice (bounds_row p g c node)
    bounds_element node =
        subst (λ (ns : List ℕ). IsElement (packs_lattice ns lists) (bounds_row p g c node)) (sym sizes_are)
        (rows_are_elements c.packs lists (place_at c node) listed ((claims_fit_there c allowed).1 node))

    -- ---- what comes along edges

    arrived : (e : ℕ) → arrives flow (bounds_row p g c) e ≡ row_of (matrices_along p g c.packs (assignment_of p g c) e)
    arrived zero = refl
    arrived (suc e) =
        let x = edge_at g (suc e) in
        let cells = claimed_back p g c [] x.from in
        let ms = matrices_are x.from in
        λ i. row_of (packs_post p g packs x (cells i) (ms i))

    pub arrived_element : (e : ℕ) → e ≤ length g.edges → IsElement lattice (arrives flow (bounds_row p g c) e)
    arrived_element zero last = flows.entry_element
    arrived_element (suc e) last =
        flows.post_element (suc e) (bounds_row p g c (edge_at g (suc e)).from) (record { first = omega arith; last = last })
        (bounds_element (edge_at g (suc e)).from)

    -- what comes along the edge lies below what is claimed where it leads
    abbrev LiesBelow : ℕ → Type 0
    LiesBelow e = lattice.Below (arrives flow (bounds_row p g c) e) (bounds_row p g c (leads_to g e))

    gaps_there : (e : ℕ) → e ≤ length g.edges → (pack_gaps p g c e ≡ []) ↔ LiesBelow e
    gaps_there e last =
        let reached = arrives flow (bounds_row p g c) e in
        let most = bounds_row p g c (leads_to g e) in
        let tell : (of_matrices.gaps (sizes_of packs) reached most ≡ []) ↔ LiesBelow e =
        gaps_tell (sizes_of packs) lists reached most (are_packs.listed ∙ sym (length-map packs size_of)) (arrived_element e last)
        (bounds_element (leads_to g e)) in
        let same : of_matrices.gaps (sizes_of packs) reached most ≡ pack_gaps p g c e =
        λ i. of_matrices.gaps (sizes_are i) (arrived e i) most in
        (λ h. tell.0 (same ∙ h), λ below. sym same ∙ tell.1 below)

    tells : (e : ℕ) → e ≤ length g.edges → (pack_gaps p g c e ≡ []) ↔ Keeps lattice flow (bounds_row p g c) e
    tells zero last = gaps_there zero last
    tells (suc e) last = gaps_there (suc e) last

    -- ---- leaks

    pub no_pack_leaks : IsInductive lattice flow (bounds_row p g c) → pack_leaks p g c ≡ []
    no_pack_leaks is = none_leak g 2 (pack_gaps p g c) lattice flow (bounds_row p g c) refl tells is

    pub bounds_kept : pack_leaks p g c ≡ [] → IsInductive lattice flow (bounds_row p g c)
    bounds_kept none = keeps_all g 2 (pack_gaps p g c) lattice flow (bounds_row p g c) refl tells (λ node is. bounds_element node) none

    pub pack_leaks_first : cell_leaks p g c ≡ [] → (e : ℕ) (gap : Gap) → IsFirstLeak lattice flow (bounds_row p g c) e →
        slice_get (pack_gaps p g c e) 0 ≡ Some gap → slice_get (leaks p g c) 0 ≡ Some (leak 2 e gap)
    pack_leaks_first none e gap is first =
        ap (λ (xs : List Leak). slice_get (xs ++ pack_leaks p g c) 0) none
        ∙ leaks_here g 2 (pack_gaps p g c) lattice flow (bounds_row p g c) refl tells e gap is first

    -- the first gap at the node that an edge leads to
    module _ (e : ℕ) (sizes : List ℕ) (row claimed_there : List ℤ) (sizes_same : sizes ≡ pack_sizes p g c)
        (row_is : row ≡ arrives flow (bounds_row p g c) e) (claimed_is : claimed_there ≡ bounds_row p g c (led_to flow e)) where
      leads_is : (k : ℕ) → led_to flow k ≡ leads_to g k
      leads_is zero = refl
      leads_is (suc k) = refl

      pub pack_gap_is : (first : Option Gap) → first ≡ slice_get (of_matrices.gaps sizes row claimed_there) 0 →
          slice_get (pack_gaps p g c e) 0 ≡ first
      pack_gap_is first h =
          let there = row_is ∙ arrived e in
          let most = claimed_is ∙ ap (bounds_row p g c) (leads_is e) in
          sym (h ∙ (λ i. slice_get (of_matrices.gaps (sizes_same i) (there i) (most i)) 0))

      pub there_is_a_pack_gap : (first : Option Gap) → first ≡ slice_get (of_matrices.gaps sizes row claimed_there) 0 → first ≡ None →
          IsFirstLeak lattice flow (bounds_row p g c) e → ⊥
      there_is_a_pack_gap first h none leak_ =
          has_a_gap g 2 (pack_gaps p g c) lattice flow (bounds_row p g c) refl tells e leak_ (pack_gap_is first h ∙ none)
