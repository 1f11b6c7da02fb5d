-- The certificate of an assignment that is found: its bounds say the matrices, or the least ones where no cells are reached;
-- and the edges keep them.
use Rattle.std.proofs.Common.{◌≡◌, ℕ, ◌≤◌, List, [], ◌∷◌, length, map, Option, Some, None, ℤ, refl, sym, ap, ◌∙◌, subst, arith}
use Rattle.std.specs.List.{AllByRecursion}
use Rattle.std.proofs.Props.{props}
use Rattle.std.proofs.Math.Logic.{∥∥₁_elim}
use Rattle.std.proofs.lemmas.List.{length-map}
use Rattle.cob_program.specs.Act.{Program}
use Rattle.cob_program.specs.Values.{◌>>=◌}
use Rattle.cob_graph.specs.declared.graph.Graph.{Graph}
use Rattle.cob_graph.specs.Graphs.{cells_of}
use Rattle.graph_runs.specs.Places.{edge_at}
use Rattle.graph_runs.specs.Sources.{IsSourceGraph}
use Rattle.dom_laws.specs.Lattice.{Lattice, IsElement, IsLattice}
use Rattle.dom_laws.specs.Flow.{Flow, IsNode, IsEdge, IsFlow, IsInductive}
use Rattle.interval_domain.specs.Elements.{Element, ElementBelow, ElementFits}
use Rattle.interval_domain.specs.Rows.{element_of}
use Rattle.interval_domain.proofs.Rows.{element_back}
use Rattle.cob_graph.specs.Homes.{homes_of}
use Rattle.cell_steps.specs.OwnRanges.{owns}
use Rattle.cell_layer.proofs.FirstCells.{homes_many}
use Rattle.cell_laws.specs.Entry.{entry_cells}
use Rattle.cell_laws.specs.Layer.{cell_flow, post_at}
use Rattle.cert_text.specs.View.{Certificate, Place}
use Rattle.cert_text.specs.Claims.{place_at}
use Rattle.cert_text.specs.MatrixClaims as matrices
use Rattle.cert_text.proofs.Standing.{rows_are_least}
use Rattle.diff_steps.specs.Packs.{Pack}
use Rattle.diff_steps.specs.Edges.{bottoms}
use Rattle.diff_bounds.specs.PackRows.{matrices_in, row_of, packs_lattice}
use Rattle.diff_bounds.proofs.PackRows.{packs_are_a_lattice}
use Rattle.diff_layer.proofs.Rows as rows_of_layer
use Rattle.pack_laws.specs.Layer.{AreFacts, ArePacks, packs_post, sizes_of}
use Rattle.pack_laws.specs.Packs.{pack_in}
use Rattle.pack_laws.proofs.Distinct.{homes_of_sources_are_distinct, sources_have_no_tables}
use Rattle.pack_laws.proofs.Flow.{packs_flow}
use Rattle.pack_laws.proofs.Packed.{HasDistinctHomes, HasPlainItems}
use Rattle.analyse_core.specs.Choice.{packs_of}
use Rattle.analyse_core.specs.PackThresholds.{thresholds_of_pack}
use Rattle.cert_text.proofs.Meaning.{bounds_mean}
use Rattle.cert_check.specs.Assignments.{Assignment, cells_row, matrices_row}
use Rattle.cert_check.specs.Claims.{bounds_row, row_at}
use Rattle.cert_check.proofs.BoundsKept.{sizes_are}
use Rattle.cert_check.proofs.LayerLaws.{LayerLaws, layer_laws}
use Rattle.cert_check.proofs.PackNumbers.{packs_are_few, packs_are_of}
use Rattle.analyse_core.specs.Thresholds.{thresholds_of}
use Rattle.analyse_core.specs.Certificates.{claims_from, place_for}
use Rattle.analyse_core.specs.Packs.{ArePacksReady, packs_for, pack_lists, pack_lattice, pack_flow}
use Rattle.analyse_core.specs.Found.{AreFoundBounds, AreFoundCells}
use Rattle.analyse_core.proofs.PacksBeside.{none_passes}
use Rattle.analyse_core.proofs.RowClaims.{cells_back, certificate, first_node, place_there, row_there}

-- ---- a source's packs

module _ (p : Program) (g : Graph) (source : ∥ IsSourceGraph p g ∥₁) (ready : ArePacksReady p) where
  distinct : HasDistinctHomes p
  distinct j k h e f = ∥∥₁_elim source (hlevel props) (λ s. homes_of_sources_are_distinct p g s j k h e f)

  plain : HasPlainItems p.layout
  plain place = ∥∥₁_elim source (hlevel props) (λ s. sources_have_no_tables p g s place)

  pub lists_are : length (pack_lists p) ≡ length (packs_of p)
  lists_are = length-map (packs_of p) (thresholds_of_pack (cells_of p) (thresholds_of p))

  pub listed : length (pack_lists p) ≡ length (packs_for p)
  listed = lists_are ∙ sym (length-map (packs_of p) (pack_in (homes_of p)))

  pub are_packs : ArePacks p (packs_for p) (pack_lists p)
  are_packs = record {
    cells = packs_are_of p (length (cells_of p)) (sym (homes_many p)) distinct plain (packs_of p) ready.fit;
    few = packs_are_few p (length (cells_of p)) (sym (homes_many p)) distinct plain (packs_of p) ready.fit;
    listed = listed;
  }

  pub is_lattice : IsLattice (pack_lattice p)
  is_lattice = packs_are_a_lattice (sizes_of (packs_for p)) (pack_lists p) ready.ends

  pub flows : (facts : ℕ → List ℤ) → AreFacts p g facts → IsFlow (pack_lattice p) (pack_flow p g facts)
  flows facts are = packs_flow p g (packs_for p) (pack_lists p) facts source are_packs are

-- ---- what the certificate shows

-- where no cells are reached, no differences are
abbrev pub shown_for : Lattice → Element → List ℤ → List ℤ
shown_for l None row = l.least
shown_for l (Some cs) row = row

-- nothing lies below what isn't reached
none_below : (x : Element) → ElementBelow x None → x ≡ None
none_below None h = refl
none_below (Some cs) h = absurd h

module _ (p : Program) (g : Graph) (source : ∥ IsSourceGraph p g ∥₁) (ready : ArePacksReady p) (a : Assignment)
    (found : AreFoundCells p g a) (beside : AreFoundBounds p g a) where
  abbrev rows : ℕ → List ℤ
  rows node = cells_row p a node

  abbrev bounds : ℕ → List ℤ
  bounds node = matrices_row a node

  abbrev lattice : Lattice
  lattice = pack_lattice p

  abbrev flow : Flow
  flow = pack_flow p g rows

  abbrev pub its_certificate : Certificate
  its_certificate = certificate p g (packs_of p) a

  laws : LayerLaws p g
  laws = layer_laws p g source

  its_lattice : IsLattice lattice
  its_lattice = is_lattice p g source ready

  pub are_facts : AreFacts p g rows
  are_facts node first last = (found.kept.inductive.elements node (record { first = first; last = last })).formed

  its_flow : IsFlow lattice flow
  its_flow = flows p g source ready rows are_facts

  abbrev pub shown : ℕ → List ℤ
  shown node = shown_for lattice (a.cells node) (bounds node)

  shown_is : (x : Element) (row : List ℤ) → IsElement lattice row → IsElement lattice (shown_for lattice x row)
  shown_is None row is = its_lattice.least_element
  shown_is (Some cs) row is = is

  less : (x : Element) (row : List ℤ) → IsElement lattice row → lattice.Below (shown_for lattice x row) row
  less None row is = its_lattice.least_below row is
  less (Some cs) row is = its_lattice.reflexive row is

  pub shown_element : (node : ℕ) → IsNode flow node → IsElement lattice (shown node)
  shown_element node is = shown_is (a.cells node) (bounds node) (beside.kept.inductive.elements node is)

  pub shown_below : (node : ℕ) → IsNode flow node → lattice.Below (shown node) (bounds node)
  shown_below node is = less (a.cells node) (bounds node) (beside.kept.inductive.elements node is)

  -- ---- the edges keep it

  begins_below : lattice.Below flow.entry (shown 1)
  begins_below =
      by_element (a.cells 1)
      (subst (ElementBelow (element_of (cell_flow p g).entry)) (cells_back p g (packs_of p) a source found.kept 1 (first_node p g (packs_of p) a source found.kept))
      found.kept.inductive.entry)
    where
      by_element : (x : Element) → ElementBelow (element_of (cell_flow p g).entry) x → lattice.Below flow.entry (shown_for lattice x (bounds 1))
      by_element None h =
          absurd (subst (λ (y : Element). ElementBelow y None) (element_back (owns p) (Some (entry_cells p)) laws.entry_fits) h)
      by_element (Some cs) h = beside.kept.inductive.entry

  module _ (e : ℕ) (is : IsEdge flow e) where
    from : IsNode flow (edge_at g e).from
    from = its_flow.source_node e is

    to : IsNode flow (edge_at g e).to
    to = its_flow.target_node e is

    abbrev comes : List ℤ
    comes = flow.post e (shown (edge_at g e).from)

    comes_is : IsElement lattice comes
    comes_is = its_flow.post_element e (shown (edge_at g e).from) is (shown_element (edge_at g e).from from)

    -- into a node at which no cells are reached nothing comes
    none_comes : a.cells (edge_at g e).to ≡ None → lattice.least ≡ comes
    none_comes none_known =
        let back = cells_back p g (packs_of p) a source found.kept (edge_at g e).to (record { first = to.first; last = to.last }) in
        let none : element_of (rows (edge_at g e).to) ≡ None = back ∙ none_known in
        let x = element_of (rows (edge_at g e).from) in
        let fits = laws.post_fits e x (are_facts (edge_at g e).from from.first from.last).fits in
        let cells_come = found.kept.inductive.edges e (record { first = is.first; last = is.last }) in
        let below : ElementBelow (post_at p g e x) (element_of (rows (edge_at g e).to)) =
        subst (λ (y : Element). ElementBelow y (element_of (rows (edge_at g e).to))) (element_back (owns p) (post_at p g e x) fits) cells_come in
        let stops = none_below (post_at p g e x) (subst (ElementBelow (post_at p g e x)) none below) in
        let ms = matrices_in (sizes_of (packs_for p)) (shown (edge_at g e).from) in
        rows_of_layer.least_is (packs_for p) (pack_lists p) (listed p g source ready)
        ∙ sym (ap row_of (none_passes p g (packs_for p) (edge_at g e) x ms stops))

    comes_below : lattice.Below comes (shown (edge_at g e).to)
    comes_below = by_element (a.cells (edge_at g e).to) refl
      where
        by_element : (x : Element) → a.cells (edge_at g e).to ≡ x → lattice.Below comes (shown_for lattice x (bounds (edge_at g e).to))
        by_element None none =
            subst (λ (row : List ℤ). lattice.Below row lattice.least) (none_comes none) (its_lattice.reflexive lattice.least its_lattice.least_element)
        by_element (Some cs) some =
            let source_row = beside.kept.inductive.elements (edge_at g e).from from in
            its_lattice.transitive comes (flow.post e (bounds (edge_at g e).from)) (bounds (edge_at g e).to) comes_is
            (its_flow.post_element e (bounds (edge_at g e).from) is source_row) (beside.kept.inductive.elements (edge_at g e).to to)
            (its_flow.post_monotone e (shown (edge_at g e).from) (bounds (edge_at g e).from) is (shown_element (edge_at g e).from from) source_row
            (shown_below (edge_at g e).from from))
            (beside.kept.inductive.edges e is)

  -- ---- what the certificate's bounds mean

  abbrev pack_sizes : List ℕ
  pack_sizes = matrices.sizes_of (packs_of p)

  same_sizes : sizes_of (packs_for p) ≡ pack_sizes
  same_sizes = sizes_are p g its_certificate

  many_lists : length (pack_lists p) ≡ length pack_sizes
  many_lists = lists_are p g source ready ∙ sym (length-map (packs_of p) length)

  pub bounds_there : (node : ℕ) → IsNode flow node → bounds_row p g its_certificate node ≡ shown node
  bounds_there node is =
      ap (matrices.claimed_row pack_sizes)
      (place_there p g (packs_of p) a source found.kept node (record { first = is.first; last = is.last }))
      ∙ by_element (a.cells node)
    where
      by_element : (x : Element) → matrices.claimed_row pack_sizes (place_for pack_sizes x (bounds node)) ≡ shown_for lattice x (bounds node)
      by_element None =
          rows_are_least pack_sizes (pack_lists p) many_lists ∙ ap (λ (ns : List ℕ). (packs_lattice ns (pack_lists p)).least) (sym same_sizes)
      by_element (Some cs) =
          bounds_mean pack_sizes (pack_lists p) (claims_from 1 cs) (bounds node) many_lists
          (subst (λ (ns : List ℕ). IsElement (packs_lattice ns (pack_lists p)) (bounds node)) same_sizes (beside.kept.inductive.elements node is))

  pub bounds_inductive : IsInductive lattice (pack_flow p g (row_at p g its_certificate)) (bounds_row p g its_certificate)
  bounds_inductive = record {
    elements = λ node is.
        let there : IsNode flow node = record { first = is.first; last = is.last } in
        subst (IsElement lattice) (sym (bounds_there node there)) (shown_element node there);
    entry =
        let first = first_node p g (packs_of p) a source found.kept in
        subst (lattice.Below flow.entry) (sym (bounds_there 1 (record { first = first.first; last = first.last }))) begins_below;
    edges = λ e is. comes_there e (record { first = is.first; last = is.last });
  }
    where
      comes_there : (e : ℕ) → IsEdge flow e →
          lattice.Below ((pack_flow p g (row_at p g its_certificate)).post e (bounds_row p g its_certificate (edge_at g e).from))
          (bounds_row p g its_certificate (edge_at g e).to)
      comes_there e is =
          let at = from e is in
          let facts = row_there p g (packs_of p) a source found.kept (edge_at g e).from (record { first = at.first; last = at.last }) in
          let its = bounds_there (edge_at g e).from at in
          let same : (pack_flow p g (row_at p g its_certificate)).post e (bounds_row p g its_certificate (edge_at g e).from) ≡ comes e is =
          λ i. row_of (packs_post p g (packs_for p) (edge_at g e) (element_of (facts i)) (matrices_in (sizes_of (packs_for p)) (its i))) in
          subst (lattice.Below ((pack_flow p g (row_at p g its_certificate)).post e (bounds_row p g its_certificate (edge_at g e).from)))
          (sym (bounds_there (edge_at g e).to (to e is)))
          (subst (λ (row : List ℤ). lattice.Below row (shown (edge_at g e).to)) (sym same) (comes_below e is))
