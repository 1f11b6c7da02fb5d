-- What a layer keeps gives its walks what they ask for, and its posts by what these answer.
use Rattle.std.proofs.Common.{◌≡◌, ◌≤◌, ℕ, suc, ◌+◌, ◌*◌, List, [], ◌∷◌, length, ℤ, Vec, Some, None, refl, sym, ap, subst, ◌∙◌, arith}
use Rattle.std.specs.Prelude.{slice_get}
use Rattle.std.specs.declared.alloc.Global.{Global}
use Rattle.std.specs.List.{AllByRecursion, AllByRecursion-prop}
use Rattle.std.proofs.Props.{props}
use Rattle.std.proofs.Math.Logic.{∥∥₁_elim}
use Rattle.std.proofs.lemmas.List.{length-map}
use Rattle.std.proofs.lemmas.List.Elements.{All-from_recursion, All-contains}
use Rattle.cob_data.specs.declared.layout.Layout.{Layout}
use Rattle.cob_program.specs.Act.{Program}
use Rattle.cob_graph.specs.declared.graph.Edge.{Edge}
use Rattle.cob_graph.specs.declared.graph.Graph.{Graph}
use Rattle.dom_laws.specs.Lattice.{IsElement}
use Rattle.graph_runs.specs.Places.{edge_at}
use Rattle.interval_domain.specs.Rows.{IsRow, element_of}
use Rattle.cob_graph.specs.declared.homes.Home.{Home}
use Rattle.cob_graph.specs.Homes.{homes_of}
use Rattle.cob_graph.specs.Limits.{most_cells}
use Rattle.cell_steps.specs.OwnRanges.{home_range, owns}
use Rattle.cell_layer.specs.declared.layer.works.EdgeWorks.{EdgeWorks}
use Rattle.cell_layer.specs.Held.{IsHeld}
use Rattle.cell_layer.proofs.Making.{sound_items}
use Rattle.diff_bounds.specs.declared.Pack as declared
use Rattle.diff_steps.specs.Packs.{Pack, size_of}
use Rattle.diff_bounds.specs.PackRows.{width_of, matrices_in, row_of, matrices_beside, lists_of}
use Rattle.pack_laws.specs.Agreeing.{AreMatrices, IsPackOf, ArePacksOf}
use Rattle.diff_layer.specs.declared.pack.plans.PackPlan.{PackPlan}
use Rattle.diff_layer.specs.Plans.{plain_plan, plain_plans, IsShortHome, ArePlansOf, matrices_for, IsRowFor}
use Rattle.pack_laws.specs.Packs.{packs_of, ArePacksOfCells}
use Rattle.pack_laws.specs.Layer.{Facts, ArePacks, sizes_of, diff_lattice, packs_post, diff_post}
use Rattle.pack_laws.proofs.Pieces.{are_matrices}
use Rattle.diff_layer.specs.Planning.{HasUnit, HaveUnits}
use Rattle.diff_layer.specs.Edges.{packs_walked}
use Rattle.diff_layer.specs.LayerLaws.{source_of, cells_for_homes, its_packs}
use Rattle.diff_layer.proofs.Rows.{row_back, width_is, least_is, few_words, small_sizes, post_passed, post_stopped}
use Rattle.diff_layer.proofs.Short.{homes_are_short}
use Rattle.diff_layer.proofs.Facts as facts

-- ---- plans

each_of : (P : Home → Type 0) (pack : Pack) → ((k : ℕ) (h : Home) → slice_get pack k ≡ Some h → P h) → AllByRecursion P pack
each_of P [] each = tt
each_of P (h ∷ hs) each = (each 0 h refl, each_of P hs (λ k g e. each (suc k) g e))

module _ (p : Program) (short : AllByRecursion (IsShortHome p.layout) (homes_of p)) where
  pack_short : (pack : Pack) → IsPackOf p pack → AllByRecursion (IsShortHome p.layout) pack
  pack_short pack is =
      each_of (IsShortHome p.layout) pack
      (λ k h e. All-contains (IsShortHome p.layout) (homes_of p) h (All-from_recursion (IsShortHome p.layout) (homes_of p) short) (is.homes k h e))

  plans_are : (plans : List PackPlan) → ArePacksOf p (plain_plans plans) → AllByRecursion (λ pack. size_of pack ≤ 8) (plain_plans plans) →
      HaveUnits p.layout plans → ArePlansOf p plans
  plans_are [] cells few units = tt
  plans_are (plan ∷ plans) cells few units =
      (record { few = few.0; short = pack_short (plain_plan plan) cells.0; unit = units.0 }, plans_are plans cells.1 few.1 units.1)

units_prop : (l : Layout) (plans : List PackPlan) → IsProp (HaveUnits l plans)
units_prop l plans = AllByRecursion-prop (HasUnit l) (λ plan. hlevel props) plans

-- ---- posts, by the packs

module _ (p : Program) (g : Graph) (x : Edge) (fact from out : List ℤ) where
  passed_for : (packs : List Pack) → length out ≡ width_of (sizes_of packs) →
      packs_walked p g packs x (element_of fact) (matrices_in (sizes_of packs) from) ≡ Some (matrices_in (sizes_of packs) out) →
      out ≡ row_of (packs_post p g packs x (element_of fact) (matrices_in (sizes_of packs) from))
  passed_for packs wide e =
      sym (post_passed p g packs x (matrices_in (sizes_of packs) from) (element_of fact) (matrices_in (sizes_of packs) out) e
      ∙ row_back (sizes_of packs) out wide)

  stopped_for : (packs : List Pack) (lists : List (List ℤ)) → length lists ≡ length packs →
      packs_walked p g packs x (element_of fact) (matrices_in (sizes_of packs) from) ≡ None → out ≡ (matrices_beside (sizes_of packs) lists).least →
      out ≡ row_of (packs_post p g packs x (element_of fact) (matrices_in (sizes_of packs) from))
  stopped_for packs lists listed e least =
      least ∙ least_is packs lists listed ∙ sym (post_stopped p g packs x (matrices_in (sizes_of packs) from) (element_of fact) e)

-- ---- a layer

module _ (p : Program) (g : Graph) (works : EdgeWorks) (held : ∥ IsHeld p g works ∥₁) (packs : List declared.Pack)
    (cells : ∥ ArePacksOfCells (length g.cells) packs ∥₁) (thresholds : List (Vec ℤ Global)) (listed : length thresholds ≡ length packs) where
  abbrev pub lists : List (List ℤ)
  lists = lists_of thresholds

  its : ArePacks p (packs_of p packs) lists
  its = its_packs p g works held packs cells thresholds listed

  pub few_words_in : length packs ≤ 32 → (diff_lattice (packs_of p packs) lists).width ≤ 2592
  few_words_in few =
      let sizes = sizes_of (packs_of p packs) in
      let most = few_words sizes (small_sizes (packs_of p packs) its.few) in
      let many : length sizes ≡ length packs = length-map (packs_of p packs) size_of ∙ length-map packs _ in
      let wide = width_is sizes lists (its.listed ∙ sym (length-map (packs_of p packs) size_of)) in
      omega (arith, most, many, wide, few)

  module _ (plans : List PackPlan) (planned : plain_plans plans ≡ packs_of p packs) where
    pub are_plans : ∥ HaveUnits p.layout plans ∥₁ → ArePlansOf p plans
    are_plans units =
        plans_are p (homes_are_short p (sound_items p g (source_of p g works held))) plans (subst (ArePacksOf p) (sym planned) its.cells)
        (subst (AllByRecursion (λ pack. size_of pack ≤ 8)) (sym planned) its.few) (∥∥₁_elim units (units_prop p.layout plans) (λ a. a))

    pub as_many : length plans ≡ length packs
    as_many = sym (length-map plans plain_plan) ∙ ap length planned ∙ length-map packs _

    pub is_row_for : (row : List ℤ) → IsElement (diff_lattice (packs_of p packs) lists) row → IsRowFor plans row
    is_row_for row is = record {
      width = is.width ∙ width_is (sizes_of (packs_of p packs)) lists (its.listed ∙ sym (length-map (packs_of p packs) size_of))
          ∙ ap (λ qs. width_of (sizes_of qs)) (sym planned);
      matrices = subst (λ qs. AreMatrices qs (matrices_in (sizes_of qs) row)) (sym planned)
          (are_matrices (packs_of p packs) lists its row is);
    }

    -- ---- edges

    module _ (facts_ : Facts) (e : ℕ) (x : Edge) (at : x ≡ edge_at g e) (fact from out : List ℤ) (its_fact : fact ≡ facts_ x.from) where
      at_edge : row_of (packs_post p g (packs_of p packs) x (element_of fact) (matrices_in (sizes_of (packs_of p packs)) from))
          ≡ diff_post p g (packs_of p packs) facts_ e from
      at_edge =
          ap (λ f. row_of (packs_post p g (packs_of p packs) x (element_of f) (matrices_in (sizes_of (packs_of p packs)) from))) its_fact
          ∙ ap (λ (y : Edge). row_of (packs_post p g (packs_of p packs) y (element_of (facts_ y.from)) (matrices_in (sizes_of (packs_of p packs)) from))) at

      pub passed : length out ≡ (matrices_beside (sizes_of (packs_of p packs)) lists).width →
          packs_walked p g (plain_plans plans) x (element_of fact) (matrices_for plans from) ≡ Some (matrices_for plans out) →
          out ≡ diff_post p g (packs_of p packs) facts_ e from
      passed wide walks =
          passed_for p g x fact from out (packs_of p packs)
          (wide ∙ width_is (sizes_of (packs_of p packs)) lists (its.listed ∙ sym (length-map (packs_of p packs) size_of)))
          (subst (λ qs. packs_walked p g qs x (element_of fact) (matrices_in (sizes_of qs) from) ≡ Some (matrices_in (sizes_of qs) out)) planned walks)
          ∙ at_edge

      pub stopped : (sizes : List ℕ) → sizes ≡ sizes_of (packs_of p packs) →
          packs_walked p g (plain_plans plans) x (element_of fact) (matrices_for plans from) ≡ None → out ≡ (matrices_beside sizes lists).least →
          out ≡ diff_post p g (packs_of p packs) facts_ e from
      stopped sizes sized walks least =
          stopped_for p g x fact from out (packs_of p packs) lists its.listed
          (subst (λ qs. packs_walked p g qs x (element_of fact) (matrices_in (sizes_of qs) from) ≡ None) planned walks)
          (least ∙ ap (λ ns. (matrices_beside ns lists).least) sized)
          ∙ at_edge

  -- ---- facts

  pub fact_width : (row : List ℤ) → IsRow (owns p) row → length row ≡ 2 * length g.cells + 1
  fact_width row is =
      let wide = facts.width_is (owns p) row is in
      let many : length (owns p) ≡ length g.cells = length-map (homes_of p) (home_range p.layout) ∙ sym (cells_for_homes p g works held) in
      omega (arith, wide, many)

  pub few_facts : length g.cells ≤ most_cells → (row : List ℤ) → IsRow (owns p) row → length row ≤ 1025
  few_facts few row is =
      let wide = facts.width_is (owns p) row is in
      let many : length (owns p) ≡ length g.cells = length-map (homes_of p) (home_range p.layout) ∙ sym (cells_for_homes p g works held) in
      omega (arith, wide, many, few)
