-- The plain evaluation of a graph without edges that go back is kept by the edges, and has no heads.
use Rattle.std.proofs.Common.{◌≡◌, ℕ, zero, suc, ◌+◌, ◌-◌, ◌<◌, ◌≤◌, ◌==◌, List, [], ◌∷◌, ◌++◌, length, get_or, Bool, true, false, Some, None, ℤ, if◌then◌else◌, inl, inr, refl, sym, ap, ◌∙◌, subst, arith}
use Rattle.std.specs.List.{AllByRecursion}
use Rattle.std.proofs.lemmas.Bool.{eq-eqb}
use Rattle.std.proofs.lemmas.List.{length-append, get_or_append_left}
use Rattle.cob_program.specs.Act.{Program}
use Rattle.cob_graph.specs.declared.graph.Graph.{Graph}
use Rattle.graph_runs.specs.Places.{edge_at}
use Rattle.interval_domain.specs.declared.bounds.Interval.{Interval}
use Rattle.dom_laws.specs.Lattice.{Lattice, IsElement}
use Rattle.dom_laws.specs.Flow.{IsEdge, IsHead, IsInductive}
use Rattle.interval_domain.specs.Elements.{Element, ElementFits, ElementBelow, joined_element}
use Rattle.interval_domain.specs.Rows.{cells_lattice, element_of, row_from, width_of}
use Rattle.interval_domain.proofs.AllCells.{element_reflexive, element_transitive, element_join_fits, element_join_left, element_join_right}
use Rattle.interval_domain.proofs.Rows.{element_back}
use Rattle.cell_steps.specs.OwnRanges.{owns}
use Rattle.cell_laws.specs.Entry.{entry_cells}
use Rattle.cell_laws.specs.Layer.{cell_flow, post_at, row_for}
use Rattle.cert_text.specs.View.{Place}
use Rattle.cert_check.proofs.Lists.{equal_or_less}
use Rattle.cert_check.proofs.Accepting.{claimed}
use Rattle.cert_check.proofs.LayerLaws.{LayerLaws, layer_laws}
use Rattle.analyse_core.specs.Thresholds.{thresholds_of}
use Rattle.analyse_core.specs.Certificates.{place_for}
use Rattle.analyse_core.specs.Plain.{known_of, along, joined_along, plain_to, plain_at, GoesOn, PlainEvaluationAssigns}
use Rattle.analyse_core.proofs.Claiming.{claimed_is}

module _ (p : Program) (g : Graph) (laws : LayerLaws p g) where
  abbrev ranges : List Interval
  ranges = owns p

  -- ---- what is known lies in own ranges

  abbrev AllFit : List Element → Type 0
  AllFit xs = AllByRecursion (ElementFits ranges) xs

  fit_at : (xs : List Element) (k : ℕ) → AllFit xs → ElementFits ranges (get_or xs k None)
  fit_at [] k h = tt
  fit_at (x ∷ xs) zero h = h.0
  fit_at (x ∷ xs) (suc k) h = fit_at xs k h.1

  along_fits : (xs : List Element) (e : ℕ) → AllFit xs → ElementFits ranges (along p g xs e)
  along_fits xs e h = laws.post_fits e (known_of xs (edge_at g e).from) (fit_at xs ((edge_at g e).from - 1) h)

  edge_fits : (b : Bool) (x y : Element) → ElementFits ranges x → ElementFits ranges y → ElementFits ranges (if b then joined_element x y else x)
  edge_fits true x y h k = element_join_fits ranges x y h k
  edge_fits false x y h k = h

  begin_fits : (b : Bool) → ElementFits ranges (if b then Some (entry_cells p) else None)
  begin_fits true = laws.entry_fits
  begin_fits false = tt

  joined_fits : (xs : List Element) (node e : ℕ) → AllFit xs → ElementFits ranges (joined_along p g xs node e)
  joined_fits xs node zero h = begin_fits (node == 1)
  joined_fits xs node (suc e) h =
      edge_fits ((edge_at g (suc e)).to == node) (joined_along p g xs node e) (along p g xs (suc e)) (joined_fits xs node e h) (along_fits xs (suc e) h)

  more_fit : (xs : List Element) (x : Element) → AllFit xs → ElementFits ranges x → AllFit (xs ++ x ∷ [])
  more_fit [] x h k = (k, tt)
  more_fit (y ∷ xs) x (h, hs) k = (h, more_fit xs x hs k)

  all_fit : (n : ℕ) → AllFit (plain_to p g n)
  all_fit zero = tt
  all_fit (suc n) = more_fit (plain_to p g n) _ (all_fit n) (joined_fits (plain_to p g n) (suc n) (length g.edges) (all_fit n))

  pub plain_fits : (node : ℕ) → ElementFits ranges (plain_at p g node)
  plain_fits node = fit_at (plain_to p g (length g.nodes)) (node - 1) (all_fit (length g.nodes))

  -- ---- nodes keep what they have

  plain_length : (n : ℕ) → length (plain_to p g n) ≡ n
  plain_length zero = refl
  plain_length (suc n) =
      let more = length-append (plain_to p g n) (joined_along p g (plain_to p g n) (suc n) (length g.edges) ∷ []) in
      let rest = plain_length n in
      omega (arith, more, rest)

  kept : (n m k : ℕ) → m ≤ n → k < m → get_or (plain_to p g n) k None ≡ get_or (plain_to p g m) k None
  kept zero m k l h = absurd (omega (arith, l, h))
  kept (suc n) m k l h =
      elim (equal_or_less m (suc n) l) [
        | inl same ↦ ap (λ i. get_or (plain_to p g i) k None) (sym same)
        | inr later ↦
            let long = plain_length n in
            get_or_append_left (plain_to p g n) (joined_along p g (plain_to p g n) (suc n) (length g.edges) ∷ []) None k (omega (arith, long, later, h))
            ∙ kept n m k (omega (arith, later)) h
      ]

  last_at : (xs : List Element) (x : Element) (k : ℕ) → k ≡ length xs → get_or (xs ++ x ∷ []) k None ≡ x
  last_at [] x zero e = refl
  last_at [] x (suc k) e = absurd (omega (arith, e))
  last_at (y ∷ xs) x zero e = absurd (omega (arith, e))
  last_at (y ∷ xs) x (suc k) e = last_at xs x k (omega (arith, e))

  node_is : (k : ℕ) → suc k ≤ length g.nodes → plain_at p g (suc k) ≡ joined_along p g (plain_to p g k) (suc k) (length g.edges)
  node_is k h =
      let before : suc k - 1 ≡ k = omega arith in
      ap (λ i. get_or (plain_to p g (length g.nodes)) i None) before
      ∙ kept (length g.nodes) (suc k) k h (omega arith)
      ∙ last_at (plain_to p g k) (joined_along p g (plain_to p g k) (suc k) (length g.edges)) k (sym (plain_length k))

  -- a node before is known
  known_is : (k node : ℕ) → 1 ≤ node → node ≤ k → k ≤ length g.nodes → known_of (plain_to p g k) node ≡ plain_at p g node
  known_is k node l h m = sym (kept (length g.nodes) k (node - 1) m (omega (arith, l, h)))

  -- ---- joins are above what comes

  module _ (xs : List Element) (fits : AllFit xs) (node : ℕ) where
    abbrev at_edge : ℕ → Element
    at_edge e = joined_along p g xs node e

    kept_by : (b : Bool) (x y : Element) → ElementFits ranges x → ElementFits ranges y → ElementBelow x (if b then joined_element x y else x)
    kept_by true x y h k = element_join_left ranges x y h k
    kept_by false x y h k = element_reflexive x

    grows : (e : ℕ) → ElementBelow (at_edge e) (at_edge (suc e))
    grows e = kept_by ((edge_at g (suc e)).to == node) (at_edge e) (along p g xs (suc e)) (joined_fits xs node e fits) (along_fits xs (suc e) fits)

    below_more : (x : Element) (e more : ℕ) → e ≤ more → ElementBelow x (at_edge e) → ElementBelow x (at_edge more)
    below_more x zero zero l h = h
    below_more x (suc e) zero l h = absurd (omega (arith, l))
    below_more x e (suc more) l h =
        elim (equal_or_less e (suc more) l) [
          | inl same ↦ subst (λ i. ElementBelow x (at_edge i)) same h
          | inr later ↦ element_transitive x (at_edge more) (at_edge (suc more)) (below_more x e more (omega (arith, later)) h) (grows more)
        ]

    comes_in : (e : ℕ) → 1 ≤ e → (edge_at g e).to ≡ node → ElementBelow (along p g xs e) (at_edge e)
    comes_in zero l same = absurd (omega (arith, l))
    comes_in (suc e) l same =
        let here : ((edge_at g (suc e)).to == node) ≡ true = eq-eqb (edge_at g (suc e)).to node same in
        subst (λ b. ElementBelow (along p g xs (suc e)) (if b then joined_element (at_edge e) (along p g xs (suc e)) else at_edge e)) (sym here)
        (element_join_right ranges (at_edge e) (along p g xs (suc e)) (joined_fits xs node e fits) (along_fits xs (suc e) fits))

    pub edge_below : (e : ℕ) → 1 ≤ e → e ≤ length g.edges → (edge_at g e).to ≡ node → ElementBelow (along p g xs e) (at_edge (length g.edges))
    edge_below e l h same = below_more (along p g xs e) e (length g.edges) h (comes_in e l same)

  begins_below : (xs : List Element) → AllFit xs → ElementBelow (Some (entry_cells p)) (joined_along p g xs 1 (length g.edges))
  begins_below xs fits = below_more xs fits 1 (Some (entry_cells p)) 0 (length g.edges) (omega arith)
      (subst (λ b. ElementBelow (Some (entry_cells p)) (if b then Some (entry_cells p) else None)) (sym (eq-eqb 1 1 refl))
      (element_reflexive (Some (entry_cells p))))

  -- ---- rows

  abbrev rows : ℕ → List ℤ
  rows node = row_for p (plain_at p g node)

  abbrev lattice : Lattice
  lattice = cells_lattice ranges (thresholds_of p)

  row_back : (node : ℕ) → element_of (rows node) ≡ plain_at p g node
  row_back node = element_back ranges (plain_at p g node) (plain_fits node)

  -- what a certificate without packs claims at a node
  abbrev place_of : Element → Place
  place_of x = place_for [] x []

  row_is : (x : Element) → ElementFits ranges x → IsElement lattice (row_for p x)
  row_is x fits =
      subst (λ y. IsElement lattice (row_from (width_of ranges) y)) (claimed_is [] ranges x [] fits)
      (claimed p g (record { cells = 0; packs = []; nodes = place_of x ∷ [] }) (thresholds_of p) 1)

  module _ (on : GoesOn p g) where
    before : (node : ℕ) → 1 ≤ node → node ≤ length g.nodes → (e : ℕ) → IsEdge (cell_flow p g) e → (edge_at g e).to ≡ node →
        1 ≤ (edge_at g e).from → ElementBelow (post_at p g e (plain_at p g (edge_at g e).from)) (plain_at p g node)
    before zero l h e is same some = absurd (omega (arith, l))
    before (suc k) l h e is same some =
        let less = on e is.first is.last in
        let known = known_is k (edge_at g e).from some (omega (arith, less, same)) (omega (arith, h)) in
        subst (λ x. ElementBelow x (plain_at p g (suc k))) (ap (post_at p g e) known)
        (subst (ElementBelow (along p g (plain_to p g k) e)) (sym (node_is k h))
        (edge_below (plain_to p g k) (all_fit k) (suc k) e is.first is.last same))

    plain_entry : 1 ≤ length g.nodes → ElementBelow (Some (entry_cells p)) (plain_at p g 1)
    plain_entry some = subst (ElementBelow (Some (entry_cells p))) (sym (node_is 0 some)) (begins_below (plain_to p g 0) tt)

    pub plain_inductive : IsInductive lattice (cell_flow p g) rows
    plain_inductive =
        let flows = laws.flows (thresholds_of p) in
        record {
          elements = λ node is. row_is (plain_at p g node) (plain_fits node);
          entry =
              subst (λ x. ElementBelow x (element_of (rows 1))) (sym (element_back ranges (Some (entry_cells p)) laws.entry_fits))
              (subst (ElementBelow (Some (entry_cells p))) (sym (row_back 1)) (plain_entry flows.has_node));
          edges = λ e is.
              let from = (edge_at g e).from in
              let to = flows.target_node e is in
              let posted = post_at p g e (element_of (rows from)) in
              let fits = laws.post_fits e (element_of (rows from)) (subst (ElementFits ranges) (sym (row_back from)) (plain_fits from)) in
              subst (λ x. ElementBelow x (element_of (rows (edge_at g e).to))) (sym (element_back ranges posted fits))
              (subst (ElementBelow posted) (sym (row_back (edge_at g e).to))
              (subst (λ x. ElementBelow (post_at p g e x) (plain_at p g (edge_at g e).to)) (sym (row_back from))
              (before (edge_at g e).to to.first to.last e is refl (flows.source_node e is).first)));
        }

    no_head : (node : ℕ) → IsHead (cell_flow p g) node → ⊥
    no_head node (e, is, back, at) = let less = on e is.first is.last in omega (arith, less, back)

pub plain_assigns : PlainEvaluationAssigns
plain_assigns p g source on =
    let laws = layer_laws p g source in
    record {
      kept = record { fits = λ node is. plain_fits p g laws node; inductive = plain_inductive p g laws on };
      heads = λ node is. absurd (no_head p g laws on node is);
    }
