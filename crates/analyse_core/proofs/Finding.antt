-- What the analysis finds is allowed, accepted and misses nothing.
use Rattle.std.proofs.Common.{◌≡◌, ◌≢◌, ℕ, zero, suc, ◌+◌, ◌<◌, ◌≤◌, ◌==◌, ◌&&◌, ◌||◌, not, List, [], ◌∷◌, ◌++◌, length, Bool, true, false, Some, None, ℤ, inl, inr, refl, sym, ap, ◌∙◌, subst, arith}
use Rattle.std.specs.Prelude.{IsTrue}
use Rattle.std.specs.List.{Contains, flat_map, list_all, range_with_len}
use Rattle.std.proofs.lemmas.Bool.{and_parts}
use Rattle.std.proofs.lemmas.List.{length-map}
use Rattle.std.proofs.lemmas.List.Elements.{Contains-append_cases}
use Rattle.cob_tree.specs.declared.fault.Kind.{Kind}
use Rattle.cob_tree.specs.declared.fault.Open.{Open}
use Rattle.cob_program.specs.Act.{Program}
use Rattle.cob_graph.specs.declared.graph.Graph.{Graph}
use Rattle.cob_graph.specs.Graphs.{cells_of}
use Rattle.cob_graph.specs.Limits.{most_cells, most_nodes}
use Rattle.graph_runs.specs.Sources.{IsSourceGraph}
use Rattle.dom_laws.specs.Lattice.{Lattice, IsElement}
use Rattle.dom_laws.specs.Flow.{Flow, IsNode, IsHead, IsInductive}
use Rattle.interval_domain.specs.Known.{Known}
use Rattle.interval_domain.specs.Elements.{Element}
use Rattle.interval_domain.specs.Rows.{cells_lattice, element_of}
use Rattle.cell_steps.specs.OwnRanges.{owns}
use Rattle.cell_laws.specs.Layer.{cell_flow, clears_at, statement_at}
use Rattle.cert_text.specs.View.{Certificate}
use Rattle.cert_text.specs.Allowed.{IsAllowed}
use Rattle.cert_text.specs.MatrixClaims as matrices
use Rattle.diff_bounds.specs.PackRows.{matrices_in, packs_lattice}
use Rattle.pack_laws.specs.Layer.{AreFacts, clears_at2, sizes_of}
use Rattle.pack_laws.specs.Laws.{AreBelow}
use Rattle.pack_laws.proofs.Clears.{cleared_stays}
use Rattle.pack_laws.proofs.Flow.{posts_fall}
use Rattle.analyse_core.specs.Choice.{packs_of}
use Rattle.cert_text.proofs.Fitting.{bounds_are_fit}
use Rattle.cob_tree.specs.Kinds.{all_kinds}
use Rattle.cert_check.specs.OpenPairs.{if_open, is_cleared_by, node_clears_by, open_at, open_by, opens_by, pairs_by}
use Rattle.cert_check.specs.Assignments.{Assignment, both_clear, cells_clear, cells_row, clears, matrices_row}
use Rattle.cert_check.specs.Assignments as assigned
use Rattle.cert_check.specs.Claims.{assignment_of, bounds_at, bounds_row, claims_at, claims_clear, open_pairs, pack_leaks}
use Rattle.cert_check.specs.Checking.{Accepts}
use Rattle.cert_check.proofs.BoundsKept as claims
use Rattle.cert_check.proofs.LayerLaws.{LayerLaws, layer_laws}
use Rattle.cert_check.proofs.Layers.{clears_alone, clears_first, clears_together}
use Rattle.analyse_core.specs.Thresholds.{thresholds_of}
use Rattle.analyse_core.specs.Packs.{ArePacksReady, packs_for, pack_lists, pack_lattice, pack_flow}
use Rattle.analyse_core.specs.Assignments.{IsListedElement, IsPackAssignment, IsThresholdAssignment, MissesNothing, MissesNothingTogether}
use Rattle.analyse_core.specs.Found.{AreFoundBounds, AreFoundCells, IsFound}
use Rattle.analyse_core.proofs.Allowing.{places_allowed}
use Rattle.analyse_core.proofs.Fixed as cells
use Rattle.analyse_core.proofs.Owned.{owns_count, owns_small, thresholds_are}
use Rattle.analyse_core.proofs.PackClaims.{are_facts, are_packs, bounds_inductive, bounds_there, flows, is_lattice, lists_are, shown_for}
use Rattle.analyse_core.proofs.PacksFixed as packs
use Rattle.analyse_core.proofs.RowClaims.{cells_back, certificate, claims_there, no_cell_leaks, shape}

-- ---- lists with an element

has_some : {A : Type 0} (xs : List A) (y : A) (ys : List A) → xs ≡ y ∷ ys → xs ≢ []
has_some xs y ys is none = absurd (let apart = sym is ∙ none in cc apart)

-- ---- what clears the same at each node leaves the same open

module _ (g : Graph) (some more : ℕ → Kind → Bool)
    (same : (node : ℕ) (fault : Kind) → 1 ≤ node → node ≤ length g.nodes → some node fault ≡ more node fault) where
  all_same : (statement : ℕ) (fault : Kind) (first count : ℕ) → 1 ≤ first → first + count ≤ suc (length g.nodes) →
      list_all (node_clears_by g some statement fault) (range_with_len first count) ≡ list_all (node_clears_by g more statement fault) (range_with_len first count)
  all_same statement fault first zero l h = refl
  all_same statement fault first (suc count) l h =
      let rest = all_same statement fault (first + 1) count (omega (arith, l)) (omega (arith, h)) in
      λ i. (not (statement_at g first == statement) || same first fault l (omega (arith, h)) i) && rest i

  each_same : {A B : Type 0} (f h : A → List B) (xs : List A) → ((x : A) → f x ≡ h x) → flat_map f xs ≡ flat_map h xs
  each_same f h [] are = refl
  each_same f h (x ∷ xs) are = λ i. are x i ++ each_same f h xs are i

  pub same_pairs : (statements : ℕ) → pairs_by g some statements ≡ pairs_by g more statements
  same_pairs statements =
      each_same (opens_by g some) (opens_by g more) (range_with_len 1 statements) (λ statement.
      each_same (open_by g some statement) (open_by g more statement) all_kinds (λ fault.
      ap (λ b. if_open b statement fault) (all_same statement fault 1 (length g.nodes) (omega arith) (omega arith))))

-- ---- the certificate of what is found

module _ (p : Program) (g : Graph) (source : ∥ IsSourceGraph p g ∥₁) (ready : ArePacksReady p) (a : Assignment)
    (found : AreFoundCells p g a) (beside : AreFoundBounds p g a) where
  abbrev c : Certificate
  c = certificate p g (packs_of p) a

  abbrev rows : ℕ → List ℤ
  rows node = cells_row p a node

  abbrev bounds : ℕ → List ℤ
  bounds node = matrices_row a node

  abbrev cells_flow : Flow
  cells_flow = cell_flow p g

  abbrev lattice : Lattice
  lattice = pack_lattice p

  abbrev flow : Flow
  flow = pack_flow p g rows

  abbrev pack_sizes : List ℕ
  pack_sizes = matrices.sizes_of (packs_of p)

  laws : LayerLaws p g
  laws = layer_laws p g source

  its_facts : AreFacts p g rows
  its_facts = are_facts p g source ready a found beside

  -- ---- heads

  head_is_node : (head : ℕ) → IsHead flow head → IsNode flow head
  head_is_node head (e, edge, back, at) = subst (IsNode flow) at ((flows p g source ready rows its_facts).target_node e edge)

  head_of_cells : (head : ℕ) → IsHead flow head → IsHead cells_flow head
  head_of_cells head (e, edge, back, at) = (e, record { first = edge.first; last = edge.last }, back, at)

  -- ---- it is allowed

  row_fits : (node : ℕ) → IsNode flow node → IsElement (packs_lattice pack_sizes (pack_lists p)) (bounds node)
  row_fits node is =
      subst (λ (ns : List ℕ). IsElement (packs_lattice ns (pack_lists p)) (bounds node)) (claims.sizes_are p g c) (beside.kept.inductive.elements node is)

  allowed : length (cells_of p) ≤ most_cells → length g.nodes ≤ most_nodes → IsAllowed c
  allowed few_cells few_nodes =
      let count = (shape p g (packs_of p) a source found.kept).nodes in
      record {
        cells = omega (arith, few_cells);
        nodes = omega (arith, count, few_nodes);
        packs = ready.few;
        each_pack = ready.fit;
        each_node =
            places_allowed (length (cells_of p)) (packs_of p) pack_sizes (owns p) (owns_small p g source) (owns_count p g source)
            a.cells (matrices_row a) 1 (length g.nodes)
            (λ node l h. found.kept.fits node (record { first = l; last = omega (arith, h) }))
            (λ node l h.
            bounds_are_fit (packs_of p) (pack_lists p) (bounds node) (lists_are p g source ready)
            (row_fits node (record { first = l; last = omega (arith, h) })));
      }

  -- ---- it is accepted

  accepted : IsAllowed c → Accepts p g c (open_pairs p g c)
  accepted fits =
      let its_shape = shape p g (packs_of p) a source found.kept in
      let none = no_cell_leaks p g (packs_of p) a source found.kept in
      let no_more : pack_leaks p g c ≡ [] =
      claims.no_pack_leaks p g c source its_shape fits (pack_lists p) (lists_are p g source ready)
      (bounds_inductive p g source ready a found beside) in
      record { shape = its_shape; inductive = λ i. none i ++ no_more i; pairs_are = refl }

  -- ---- it clears what is cleared by what is found

  its_cells : (node : ℕ) → IsNode cells_flow node → a.cells node ≡ claims_at p g c node
  its_cells node is = claims_there p g (packs_of p) a source found.kept node is

  -- where a node is reached, its bounds are the matrices
  its_matrices : (node : ℕ) (known : List Known) → IsNode cells_flow node → a.cells node ≡ Some known → a.matrices node ≡ bounds_at p g c node
  its_matrices node known is some =
      let shown_there : bounds node ≡ bounds_row p g c node =
      ap (λ (x : Element). shown_for lattice x (bounds node)) (sym some)
      ∙ sym (bounds_there p g source ready a found beside node (record { first = is.first; last = is.last })) in
      sym (beside.kept.fits node is)
      ∙ ap (matrices_in (sizes_of (packs_for p))) shown_there
      ∙ claims.matrices_are p g c node

  both_same : (node : ℕ) (fault : Kind) → IsNode cells_flow node →
      both_clear p g (packs_of p) a node fault ≡ both_clear p g (packs_of p) (assignment_of p g c) node fault
  both_same node fault is = by_element (a.cells node) refl
    where
      by_element : (x : Element) → a.cells node ≡ x →
          both_clear p g (packs_of p) a node fault ≡ both_clear p g (packs_of p) (assignment_of p g c) node fault
      by_element None e =
          ap (λ (x : Element). clears_at2 p g (packs_for p) node x (a.matrices node) fault) e
          ∙ sym (ap (λ (x : Element). clears_at2 p g (packs_for p) node x (bounds_at p g c node) fault) (sym (its_cells node is) ∙ e))
      by_element (Some known) e =
          let ms = its_matrices node known is e in
          λ i. clears_at2 p g (packs_for p) node (its_cells node is i) (ms i) fault

  clears_same : (node : ℕ) (fault : Kind) → IsNode cells_flow node → clears p g (packs_of p) a node fault ≡ claims_clear p g c node fault
  clears_same node fault is = by_packs (packs_of p) refl
    where
      by_packs : (ps : List (List ℕ)) → packs_of p ≡ ps → clears p g (packs_of p) a node fault ≡ claims_clear p g c node fault
      by_packs [] none =
          clears_alone p g (packs_of p) a none node fault
          ∙ ap (λ (x : Element). clears_at p g node x fault) (its_cells node is)
          ∙ sym (clears_alone p g (packs_of p) (assignment_of p g c) none node fault)
      by_packs (pack ∷ ps) is_some =
          let some = has_some (packs_of p) pack ps is_some in
          clears_together p g (packs_of p) a some node fault ∙ both_same node fault is
          ∙ sym (clears_together p g (packs_of p) (assignment_of p g c) some node fault)

  pairs_same : assigned.open_pairs p g (packs_of p) a ≡ open_pairs p g c
  pairs_same =
      same_pairs g (clears p g (packs_of p) a) (claims_clear p g c)
      (λ node fault l h. clears_same node fault (record { first = l; last = h })) p.statements

  -- ---- nothing is missed

  module _ (x : Assignment) (assigns : IsThresholdAssignment p g x) where
    abbrev cells_order : Lattice
    cells_order = cells_lattice (owns p) (thresholds_of p)

    cell_head_is_node : (node : ℕ) → IsHead cells_flow node → IsNode cells_flow node
    cell_head_is_node node (e, edge, back, at) = subst (IsNode cells_flow) at ((laws.flows (thresholds_of p)).target_node e edge)

    x_back : (node : ℕ) → IsNode cells_flow node → element_of (cells_row p x node) ≡ x.cells node
    x_back node is = cells_back p g (packs_of p) x source assigns.kept node is

    heads_listed : (node : ℕ) → IsHead cells_flow node → IsListedElement (thresholds_of p) (element_of (cells_row p x node))
    heads_listed node is =
        subst (IsListedElement (thresholds_of p)) (sym (x_back node (cell_head_is_node node is))) (assigns.heads node is)

    lies_below : (node : ℕ) → IsNode cells_flow node → cells_order.Below (rows node) (cells_row p x node)
    lies_below node is =
        found.dominated (cells_row p x) assigns.kept.inductive
        (cells.heads_are_fixed (owns p) (thresholds_of p) (thresholds_are p g source) cells_flow (cells_row p x) heads_listed) node is

    -- what it says of cells clears no more than what is found of them
    cells_clear_there : (node : ℕ) (fault : Kind) → IsNode cells_flow node → cells_clear p g x node fault ≡ true → cells_clear p g a node fault ≡ true
    cells_clear_there node fault is e =
        subst (λ (y : Element). clears_at p g node y fault ≡ true) (cells_back p g (packs_of p) a source found.kept node is)
        ((laws.means (thresholds_of p)).clears_below node (rows node) (cells_row p x node) fault is
        (found.kept.inductive.elements node is) (assigns.kept.inductive.elements node is) (lies_below node is)
        (subst (λ (y : Element). clears_at p g node y fault ≡ true) (sym (x_back node is)) e))

    claims_clear_there : (node : ℕ) (fault : Kind) → IsNode cells_flow node → cells_clear p g x node fault ≡ true → claims_clear p g c node fault ≡ true
    claims_clear_there node fault is e =
        sym (clears_same node fault is) ∙ clears_first p g (packs_of p) a node fault (cells_clear_there node fault is e)

    -- ---- with packs

    abbrev others : ℕ → List ℤ
    others node = matrices_row x node

    x_facts : AreFacts p g (cells_row p x)
    x_facts node first last = (assigns.kept.inductive.elements node (record { first = first; last = last })).formed

    are_below : AreBelow g rows (cells_row p x)
    are_below node first last = lies_below node (record { first = first; last = last })

    module _ (pack_assigns : IsPackAssignment p g x) where
      others_element : (node : ℕ) → IsNode flow node → IsElement lattice (others node)
      others_element node is = pack_assigns.kept.inductive.elements node (record { first = is.first; last = is.last })

      -- the edges keep these rows beside what is found of cells
      others_inductive : IsInductive lattice flow others
      others_inductive = record {
        elements = others_element;
        entry = pack_assigns.kept.inductive.entry;
        edges = λ e is.
            let its_flow = flows p g source ready rows its_facts in
            let over = flows p g source ready (cells_row p x) x_facts in
            let from = others_element (flow.source e) (its_flow.source_node e is) in
            let to = others_element (flow.target e) (its_flow.target_node e is) in
            (is_lattice p g source ready).transitive (flow.post e (others (flow.source e)))
            ((pack_flow p g (cells_row p x)).post e (others (flow.source e))) (others (flow.target e))
            (its_flow.post_element e (others (flow.source e)) is from)
            (over.post_element e (others (flow.source e)) (record { first = is.first; last = is.last }) from) to
            (posts_fall p g (packs_for p) (pack_lists p) rows (cells_row p x) source (are_packs p g source ready) its_facts x_facts
            are_below e (others (flow.source e)) (others (flow.source e)) is from from
            ((is_lattice p g source ready).reflexive (others (flow.source e)) from))
            (pack_assigns.kept.inductive.edges e (record { first = is.first; last = is.last }));
      }

      bounds_below : (node : ℕ) → IsNode flow node → lattice.Below (bounds node) (others node)
      bounds_below node is =
          beside.dominated others others_inductive
          (packs.heads_are_fixed (sizes_of (packs_for p)) (pack_lists p) ready.ends flow others
          (λ head is_head. others_element head (head_is_node head is_head)) (λ head is_head. pack_assigns.heads head (head_of_cells head is_head)))
          node is

      together_clear : (node : ℕ) (fault : Kind) → IsNode cells_flow node → both_clear p g (packs_of p) x node fault ≡ true →
          both_clear p g (packs_of p) a node fault ≡ true
      together_clear node fault is e =
          let ps = packs_for p in
          let there : IsNode flow node = record { first = is.first; last = is.last } in
          let found_cells = cells_back p g (packs_of p) a source found.kept node is in
          let found_matrices = beside.kept.fits node is in
          let x_cells = x_back node is in
          let x_matrices = pack_assigns.kept.fits node is in
          let as_rows : clears_at2 p g ps node (element_of (cells_row p x node)) (matrices_in (sizes_of ps) (others node)) fault
          ≡ both_clear p g (packs_of p) x node fault =
          λ i. clears_at2 p g ps node (x_cells i) (x_matrices i) fault in
          let cleared = cleared_stays p g ps (pack_lists p) rows (cells_row p x) (are_packs p g source ready) its_facts x_facts are_below node
          (bounds node) (others node) fault there (beside.kept.inductive.elements node there) (others_element node there) (bounds_below node there)
          (as_rows ∙ e) in
          sym (λ i. clears_at2 p g ps node (found_cells i) (found_matrices i) fault) ∙ cleared

      both_there : (node : ℕ) (fault : Kind) → IsNode cells_flow node → clears p g (packs_of p) x node fault ≡ true → claims_clear p g c node fault ≡ true
      both_there node fault is e = by_packs (packs_of p) refl
        where
          by_packs : (ps : List (List ℕ)) → packs_of p ≡ ps → claims_clear p g c node fault ≡ true
          by_packs [] none = claims_clear_there node fault is (sym (clears_alone p g (packs_of p) x none node fault) ∙ e)
          by_packs (pack ∷ ps) is_some =
              let some = has_some (packs_of p) pack ps is_some in
              sym (clears_same node fault is) ∙ clears_together p g (packs_of p) a some node fault
              ∙ together_clear node fault is (sym (clears_together p g (packs_of p) x some node fault) ∙ e)

-- ---- what is cleared at each node of a statement

module _ (g : Graph) (some more : ℕ → Kind → Bool) (fault : Kind)
    (rises : (node : ℕ) → 1 ≤ node → node ≤ length g.nodes → some node fault ≡ true → more node fault ≡ true) where
  or_clears : (other a b : Bool) → (a ≡ true → b ≡ true) → (not other || a) ≡ true → (not other || b) ≡ true
  or_clears true a b h e = h e
  or_clears false a b h e = refl

  all_cleared : (statement first count : ℕ) → 1 ≤ first → first + count ≤ suc (length g.nodes) →
      list_all (node_clears_by g some statement fault) (range_with_len first count) ≡ true →
      list_all (node_clears_by g more statement fault) (range_with_len first count) ≡ true
  all_cleared statement first zero l h e = refl
  all_cleared statement first (suc count) l h e =
      let parts = and_parts (node_clears_by g some statement fault first) (list_all (node_clears_by g some statement fault) (range_with_len (first + 1) count)) e in
      ap (λ b. b && list_all (node_clears_by g more statement fault) (range_with_len (first + 1) count))
      (or_clears (statement_at g first == statement) (some first fault) (more first fault) (rises first l (omega (arith, h))) parts.0)
      ∙ all_cleared statement (first + 1) count (omega (arith, l)) (omega (arith, h)) parts.1

  cleared_too : (statement : ℕ) → is_cleared_by g some statement fault ≡ true → is_cleared_by g more statement fault ≡ true
  cleared_too statement e = all_cleared statement 1 (length g.nodes) (omega arith) (omega arith) e

-- ---- open pairs aren't cleared

among : {A B : Type 0} (f : A → List B) (xs : List A) (y : B) → Contains (flat_map f xs) y → (x : A) × Contains (f x) y
among f [] y (k, l, e) = absurd (omega (arith, l))
among f (x ∷ xs) y h =
    elim (Contains-append_cases (f x) (flat_map f xs) y h) [ inl here ↦ (x, here) | inr later ↦ among f xs y later ]

module _ (p : Program) (g : Graph) (c : Certificate) where
  one_pair : (a b : ℕ) (f h : Kind) → open_at a f ≡ open_at b h → (a ≡ b) × (f ≡ h)
  one_pair a b f h e = (ap (λ (o : Open). o.statement) e, ap (λ (o : Open). o.kind) e)

  in_one : (b : Bool) (a : ℕ) (f : Kind) (y : Open) → Contains (if_open b a f) y → (b ≡ false) × (open_at a f ≡ y)
  in_one true a f y (k, l, e) = absurd (omega (arith, l))
  in_one false a f y (zero, l, e) = (refl, e)
  in_one false a f y (suc k, l, e) = absurd (omega (arith, l))

  pub open_is_not_cleared : (statement : ℕ) (fault : Kind) → Contains (open_pairs p g c) (open_at statement fault) →
      is_cleared_by g (claims_clear p g c) statement fault ≡ true → ⊥
  open_is_not_cleared statement fault h e =
      let there = among (opens_by g (claims_clear p g c)) (range_with_len 1 p.statements) (open_at statement fault) h in
      let here = among (open_by g (claims_clear p g c) there.0) all_kinds (open_at statement fault) there.1 in
      let one = in_one (is_cleared_by g (claims_clear p g c) there.0 here.0) there.0 here.0 (open_at statement fault) here.1 in
      let same = one_pair there.0 statement here.0 fault one.1 in
      let open_ : is_cleared_by g (claims_clear p g c) statement fault ≡ false =
      ap (λ s. is_cleared_by g (claims_clear p g c) s fault) (sym same.0) ∙ ap (is_cleared_by g (claims_clear p g c) there.0) (sym same.1) ∙ one.0 in
      cc (sym e ∙ open_)

-- ---- what is found

module _ (p : Program) (g : Graph) (c : Certificate) (pairs : List Open) (source : ∥ IsSourceGraph p g ∥₁) (found : IsFound p g c pairs) where
  abbrev its : Certificate
  its = certificate p g (packs_of p) found.assignment

  pub is_allowed : length (cells_of p) ≤ most_cells → length g.nodes ≤ most_nodes → IsAllowed c
  is_allowed few_cells few_nodes =
      subst IsAllowed (sym found.is) (allowed p g source found.ready found.assignment found.cells_found found.bounds_found few_cells few_nodes)

  pub is_accepted : IsAllowed c → Accepts p g c (open_pairs p g c)
  is_accepted fits =
      subst (λ (d : Certificate). Accepts p g d (open_pairs p g d)) (sym found.is)
      (accepted p g source found.ready found.assignment found.cells_found found.bounds_found (subst IsAllowed found.is fits))

  pub has_packs : c.packs ≡ packs_of p
  has_packs = ap (λ (d : Certificate). d.packs) found.is

  pub has_pairs : pairs ≡ open_pairs p g c
  has_pairs =
      found.pairs_are ∙ pairs_same p g source found.ready found.assignment found.cells_found found.bounds_found
      ∙ sym (ap (open_pairs p g) found.is)

  pub misses_nothing : MissesNothing p g c
  misses_nothing x assigns statement fault e there =
      open_is_not_cleared p g its statement fault
      (subst (λ (d : Certificate). Contains (open_pairs p g d) (open_at statement fault)) found.is there)
      (cleared_too g (cells_clear p g x) (claims_clear p g its) fault
      (λ node l h f.
      claims_clear_there p g source found.ready found.assignment found.cells_found found.bounds_found x assigns node fault
      (record { first = l; last = h }) f)
      statement e)

  pub misses_nothing_together : MissesNothingTogether p g c
  misses_nothing_together x assigns pack_assigns statement fault e there =
      open_is_not_cleared p g its statement fault
      (subst (λ (d : Certificate). Contains (open_pairs p g d) (open_at statement fault)) found.is there)
      (cleared_too g (clears p g (packs_of p) x) (claims_clear p g its) fault
      (λ node l h f.
      both_there p g source found.ready found.assignment found.cells_found found.bounds_found x assigns pack_assigns node fault
      (record { first = l; last = h }) f)
      statement e)
