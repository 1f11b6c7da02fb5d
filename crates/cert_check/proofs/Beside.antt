-- The answers of a check of packs, from what the pass and the nodes say of the rows that the code has.
use Rattle.std.proofs.Common.{◌≡◌, ◌≢◌, ◌≤◌, ℕ, List, [], ◌∷◌, ◌++◌, Bool, map, length, slice_get, Option, Some, None, ℤ, refl, sym, ap, subst, ◌∙◌, arith}
use Rattle.std.specs.Prelude.{Vec}
use Rattle.std.specs.List.{AllByRecursion}
use Rattle.std.specs.declared.alloc.Global.{Global}
use Rattle.std.proofs.lemmas.List.{length-map}
use Rattle.cob_tree.specs.declared.fault.Kind.{Kind}
use Rattle.cob_tree.specs.declared.fault.Open.{Open}
use Rattle.cob_program.specs.Act.{Program}
use Rattle.cob_graph.specs.declared.graph.Graph.{Graph}
use Rattle.interval_domain.specs.declared.bounds.Interval.{Interval}
use Rattle.dom_laws.specs.Lattice.{IsElement}
use Rattle.dom_laws.specs.Flow.{Flow, IsInductive}
use Rattle.dom_laws.specs.Leaks.{HasElements, IsFirstLeak}
use Rattle.cob_graph.specs.Homes.{homes_of}
use Rattle.cert_text.specs.View.{Certificate}
use Rattle.cert_text.specs.declared.gap.Gap.{Gap}
use Rattle.cert_text.specs.Claims.{claimed_row, place_at}
use Rattle.cert_text.specs.MatrixClaims.{cells_in}
use Rattle.cert_text.specs.MatrixClaims as matrices
use Rattle.cert_text.specs.MatrixGaps as of_matrices
use Rattle.cert_text.proofs.Allowing.{claims_fit_there}
use Rattle.diff_bounds.specs.declared.Pack as declared
use Rattle.diff_steps.specs.Packs.{Pack}
use Rattle.diff_bounds.specs.PackRows.{width_of, lists_of}
use Rattle.diff_layer.proofs.Rows.{width_is}
use Rattle.pack_laws.specs.Layer.{sizes_of, diff_lattice, diff_flow, diff_meaning}
use Rattle.pack_laws.specs.Packs.{pack_in, packs_of}
use Rattle.cert_check.specs.declared.ends.CheckEnd.TheVariants as check
use Rattle.cert_check.specs.declared.ends.Leak.{Leak}
use Rattle.cert_check.specs.Along.{arrives, led_to}
use Rattle.cert_check.specs.Assignments.{Assignment, clears}
use Rattle.cert_check.specs.Assignments as assignment
use Rattle.cert_check.specs.Claims.{assignment_of, cell_leaks, pack_leaks, row_at, packs_at, bounds_row, pack_gaps, claims_clear}
use Rattle.cert_check.specs.Clearing.{TestsTell}
use Rattle.cert_check.specs.Given.{IsGiven, BoundsAreKept, BoundsLeakFirst}
use Rattle.cert_check.specs.Checking.{HasShape, Accepts, Refuses}
use Rattle.cert_check.proofs.BoundsKept.{sizes_are, packs_tell, arrived_element, bounds_element, no_pack_leaks, pack_leaks_first, pack_gap_is, there_is_a_pack_gap}
use Rattle.cert_check.proofs.PackNumbers.{packs_in_are}

-- there are as many lists as packs
pub listed_in : (packs : List declared.Pack) (thresholds : List (Vec ℤ Global)) → length thresholds ≡ length packs → length (lists_of thresholds) ≡ length packs
listed_in packs thresholds listed = length-map thresholds (λ list. list.items) ∙ listed

module _ (p : Program) (g : Graph) (c : Certificate) (ranges : List Interval) (given : IsGiven p g c ranges) (packs : List declared.Pack)
    (cells : cells_in packs ≡ c.packs) (d : Certificate) (cert : d ≡ c) where
  -- the rows of cells as the code has them
  abbrev facts : ℕ → List ℤ
  facts node = claimed_row ranges (place_at c node)

  abbrev rows : ℕ → List ℤ
  rows node = matrices.claimed_row (matrices.sizes_of d.packs) (place_at d node)

  packs_same : packs_of p packs ≡ packs_at p g c
  packs_same = packs_in_are p packs ∙ ap (map (pack_in (homes_of p))) cells

  -- what holds of the packs and rows that the code has holds of those that are meant
  moved : (P : List Pack → (ℕ → List ℤ) → (ℕ → List ℤ) → Type 0) → P (packs_of p packs) facts rows → P (packs_at p g c) (row_at p g c) (bounds_row p g c)
  moved P h =
      subst (λ (ps : List Pack). P ps (row_at p g c) (bounds_row p g c)) packs_same
      (subst (λ (os : List Interval). P (packs_of p packs) (λ node. claimed_row os (place_at c node)) (bounds_row p g c)) given.own
      (subst (λ (x : Certificate). P (packs_of p packs) facts (λ node. matrices.claimed_row (matrices.sizes_of x.packs) (place_at x node))) cert h))

  moved_back : (P : List Pack → (ℕ → List ℤ) → (ℕ → List ℤ) → Type 0) → P (packs_at p g c) (row_at p g c) (bounds_row p g c) → P (packs_of p packs) facts rows
  moved_back P h =
      subst (λ (x : Certificate). P (packs_of p packs) facts (λ node. matrices.claimed_row (matrices.sizes_of x.packs) (place_at x node))) (sym cert)
      (subst (λ (os : List Interval). P (packs_of p packs) (λ node. claimed_row os (place_at c node)) (bounds_row p g c)) (sym given.own)
      (subst (λ (ps : List Pack). P ps (row_at p g c) (bounds_row p g c)) (sym packs_same) h))

  pub shape : HasShape p g c
  shape = record { cells = given.cells; nodes = given.nodes }

  -- ---- sizes

  many : length packs ≡ length c.packs
  many = sym (length-map packs (λ (pack : declared.Pack). pack.cells.items)) ∙ ap length cells

  pub few_packs : length packs ≤ 32
  few_packs = let few = given.allowed.packs in omega (arith, few, many)

  pub small_packs : AllByRecursion (λ n. n ≤ 8) (matrices.sizes_of (cells_in packs))
  small_packs = subst (λ (ps : List (List ℕ)). AllByRecursion (λ n. n ≤ 8) (matrices.sizes_of ps)) (sym cells) (claims_fit_there c given.allowed).0

  pub node_counted : (node : ℕ) → node ≤ length g.nodes → node ≤ length d.nodes
  node_counted node last = let count = ap (λ (x : Certificate). length x.nodes) cert ∙ given.nodes in omega (arith, last, count)

  pub nodes_counted : length g.nodes ≤ length d.nodes
  nodes_counted = node_counted (length g.nodes) (omega arith)

  module _ (lists : List (List ℤ)) (listed : length lists ≡ length packs) where
    pub listed_there : length lists ≡ length c.packs
    listed_there = listed ∙ many

    sizes_same : sizes_of (packs_at p g c) ≡ matrices.sizes_of (cells_in packs)
    sizes_same = sizes_are p g c ∙ ap matrices.sizes_of (sym cells)

    width_there : (diff_lattice (packs_at p g c) lists).width ≡ width_of (matrices.sizes_of (cells_in packs))
    width_there =
        width_is (sizes_of (packs_at p g c)) lists
        (listed_there ∙ sym (length-map c.packs (pack_in (homes_of p))) ∙ sym (length-map (packs_at p g c) (λ (pack : Pack). length pack)))
        ∙ ap width_of sizes_same

    pub element_width : (row : List ℤ) → IsElement (diff_lattice (packs_at p g c) lists) row → length row ≡ width_of (matrices.sizes_of (cells_in packs))
    element_width row is = is.width ∙ width_there

    pub its_width : (words : ℕ) → words ≡ (diff_lattice (packs_of p packs) lists).width → words ≡ width_of (matrices.sizes_of d.packs)
    its_width words e =
        e
        ∙ ap (λ (ps : List Pack). (diff_lattice ps lists).width) packs_same
        ∙ width_there
        ∙ ap (λ (ps : List (List ℕ)). width_of (matrices.sizes_of ps)) (cells ∙ sym (ap (λ (x : Certificate). x.packs) cert))

    pub width_moved : (words : ℕ) → words ≡ (diff_lattice (packs_of p packs) lists).width → words ≡ (diff_lattice (packs_at p g c) lists).width
    width_moved words e = e ∙ ap (λ (ps : List Pack). (diff_lattice ps lists).width) packs_same

    pub width_moved_back : (words : ℕ) → words ≡ (diff_lattice (packs_at p g c) lists).width → words ≡ (diff_lattice (packs_of p packs) lists).width
    width_moved_back words e = e ∙ sym (ap (λ (ps : List Pack). (diff_lattice ps lists).width) packs_same)

    -- ---- what is asked

    pub bounds_are_elements : HasElements (diff_lattice (packs_of p packs) lists) (diff_flow p g (packs_of p packs) facts) rows
    bounds_are_elements =
        moved_back (λ ps fs rs. HasElements (diff_lattice ps lists) (diff_flow p g ps fs) rs)
        (λ node is. bounds_element p g c given.source shape given.allowed lists listed_there node)

    -- ---- what is said

    pub arrives_moved : (e : ℕ) (row : List ℤ) → row ≡ arrives (diff_flow p g (packs_of p packs) facts) rows e →
        row ≡ arrives (diff_flow p g (packs_at p g c) (row_at p g c)) (bounds_row p g c) e
    arrives_moved e row h = moved (λ ps fs rs. row ≡ arrives (diff_flow p g ps fs) rs e) h

    pub row_moved : (node : ℕ) (row : List ℤ) → row ≡ rows node → row ≡ bounds_row p g c node
    row_moved node row h = h ∙ ap (λ (x : Certificate). matrices.claimed_row (matrices.sizes_of x.packs) (place_at x node)) cert

    pub leak_moved : (e : ℕ) → IsFirstLeak (diff_lattice (packs_of p packs) lists) (diff_flow p g (packs_of p packs) facts) rows e → BoundsLeakFirst p g c lists e
    leak_moved e h = moved (λ ps fs rs. IsFirstLeak (diff_lattice ps lists) (diff_flow p g ps fs) rs e) h

    pub kept_moved_back : BoundsAreKept p g c lists → IsInductive (diff_lattice (packs_of p packs) lists) (diff_flow p g (packs_of p packs) facts) rows
    kept_moved_back h = moved_back (λ ps fs rs. IsInductive (diff_lattice ps lists) (diff_flow p g ps fs) rs) h

    pub kept_moved : IsInductive (diff_lattice (packs_of p packs) lists) (diff_flow p g (packs_of p packs) facts) rows → BoundsAreKept p g c lists
    kept_moved h = moved (λ ps fs rs. IsInductive (diff_lattice ps lists) (diff_flow p g ps fs) rs) h

    -- ---- gaps

    abbrev flow : Flow
    flow = diff_flow p g (packs_at p g c) (row_at p g c)

    pub reached_width : (e : ℕ) (row : List ℤ) → row ≡ arrives flow (bounds_row p g c) e → BoundsLeakFirst p g c lists e →
        length row ≡ width_of (matrices.sizes_of (cells_in packs))
    reached_width e row is leak =
        element_width row
        (subst (IsElement (diff_lattice (packs_at p g c) lists)) (sym is) (arrived_element p g c given.source shape given.allowed lists listed_there e leak.within))

    pub claimed_width : (node : ℕ) (row : List ℤ) → row ≡ rows node → length row ≡ width_of (matrices.sizes_of (cells_in packs))
    claimed_width node row is =
        element_width row
        (subst (IsElement (diff_lattice (packs_at p g c) lists)) (sym (row_moved node row is))
        (bounds_element p g c given.source shape given.allowed lists listed_there node))

    module _ (e node : ℕ) (row most : List ℤ) (row_is : row ≡ arrives flow (bounds_row p g c) e) (most_is : most ≡ rows node)
        (node_is : node ≡ led_to flow e) (first : Option Gap)
        (first_is : first ≡ slice_get (of_matrices.gaps (matrices.sizes_of (cells_in packs)) row most) 0) where
      pub first_pack_gap : slice_get (pack_gaps p g c e) 0 ≡ first
      first_pack_gap =
          pack_gap_is p g c given.source shape given.allowed lists listed_there e (matrices.sizes_of (cells_in packs)) row most
          (ap matrices.sizes_of cells) row_is (row_moved node most most_is ∙ ap (bounds_row p g c) node_is) first first_is

      pub there_is_one : first ≡ None → BoundsLeakFirst p g c lists e → ⊥
      there_is_one =
          there_is_a_pack_gap p g c given.source shape given.allowed lists listed_there e (matrices.sizes_of (cells_in packs)) row most
          (ap matrices.sizes_of cells) row_is (row_moved node most most_is ∙ ap (bounds_row p g c) node_is) first first_is

    -- ---- answers

    module _ (none : cell_leaks p g c ≡ []) where
      pub refuses_packs : (e : ℕ) (gap : Gap) → BoundsLeakFirst p g c lists e → slice_get (pack_gaps p g c e) 0 ≡ Some gap →
          Refuses p g c (check.NotInductive 2 e gap)
      refuses_packs e gap leak first = (shape, pack_leaks_first p g c given.source shape given.allowed lists listed_there none e gap leak first)

      pub accepts_packs : (pairs : List Open) → c.packs ≢ [] → BoundsAreKept p g c lists →
          ((given_packs : List (List ℕ)) (a : Assignment)
          → TestsTell (diff_flow p g (packs_of p packs) facts) (diff_meaning p g (packs_of p packs) facts) rows (clears p g given_packs a)
          → pairs ≡ assignment.open_pairs p g given_packs a) → Accepts p g c pairs
      accepts_packs pairs some kept are = record {
        shape = shape;
        inductive =
            ap (λ (xs : List Leak). xs ++ pack_leaks p g c) none
            ∙ no_pack_leaks p g c given.source shape given.allowed lists listed_there kept;
        pairs_are =
            are c.packs (assignment_of p g c)
            (moved_back (λ ps fs rs. TestsTell (diff_flow p g ps fs) (diff_meaning p g ps fs) rs (claims_clear p g c)) (packs_tell p g c some));
      }
