-- What the solver's calls say of the analysis.
use Rattle.std.proofs.Common.{◌≡◌, ℕ, zero, suc, ◌+◌, ◌*◌, ◌^◌, ◌≤◌, List, [], ◌∷◌, length, map, ℤ, if◌then◌else◌, ◌&&◌, ◌||◌, nat_eq, nat_le, refl, sym, ap, ◌∙◌, subst, arith}
use Rattle.std.specs.Prelude.{Vec}
use Rattle.std.specs.declared.alloc.Global.{Global}
use Rattle.std.proofs.Math.Nat.{mul-le-mul_left}
use Rattle.std.proofs.lemmas.List.{length-map}
use Rattle.cob_program.specs.Act.{Program}
use Rattle.cob_graph.specs.declared.graph.Graph.{Graph}
use Rattle.cob_graph.specs.Graphs.{cells_of}
use Rattle.cob_graph.specs.Homes.{homes_of}
use Rattle.cob_graph.specs.Limits.{most_cells, most_nodes}
use Rattle.cell_steps.specs.OwnRanges.{owns}
use Rattle.graph_runs.specs.Places.{edge_at}
use Rattle.dom_laws.specs.Lattice.{Lattice}
use Rattle.dom_laws.specs.Flow.{Flow, goes_back_to, heads_up_to, head_count, IsDominated, IsInductive}
use Rattle.cell_laws.specs.Layer.{cell_flow}
use Rattle.diff_bounds.specs.declared.Pack as declared
use Rattle.diff_steps.specs.Packs.{Pack}
use Rattle.diff_bounds.specs.PackRows.{lists_of, width_of}
use Rattle.cert_text.specs.MatrixClaims.{cells_in, sizes_of}
use Rattle.pack_laws.specs.Layer as layer
use Rattle.pack_laws.specs.Layer.{diff_flow, diff_lattice, diff_meaning}
use Rattle.pack_laws.specs.Packs as of_code
use Rattle.pack_laws.specs.Packs.{pack_in}
use Rattle.analyse_core.specs.Choice.{packs_of}
use Rattle.analyse_core.specs.PackThresholds.{thresholds_of_pack}
use Rattle.cert_check.specs.Assignments.{clears}
use Rattle.cert_check.specs.Clearing.{TestsTell}
use Rattle.cert_check.proofs.BoundsKept.{sizes_are}
use Rattle.cert_check.proofs.Layers.{packs_show}
use Rattle.cert_check.proofs.PackNumbers.{packs_in_are}
use Rattle.diff_layer.proofs.Rows.{few_words, width_is}
use Rattle.widen_solver.specs.Solving.{step_bound}
use Rattle.interval_domain.specs.Elements.{height_of}
use Rattle.interval_domain.specs.Rows.{cells_lattice}
use Rattle.analyse_core.specs.Thresholds.{thresholds_of}
use Rattle.analyse_core.specs.Packs.{ArePacksGiven, packs_for, pack_lattice, pack_lists}
use Rattle.analyse_core.specs.Assignments.{layer_steps, pack_steps}
use Rattle.analyse_core.specs.Solved.{AreSolvedBounds, AreSolvedCells, solved}
use Rattle.analyse_core.proofs.PacksGiven.{given_count, given_few, given_listed, given_small}

-- ---- heads are those of the graph

module _ (p : Program) (g : Graph) (packs : List Pack) (facts : ℕ → List ℤ) where
  same_back : (node e : ℕ) → goes_back_to (diff_flow p g packs facts) node e ≡ goes_back_to (cell_flow p g) node e
  same_back node zero = refl
  same_back node (suc e) = λ i. (nat_eq (edge_at g (suc e)).to node && nat_le (edge_at g (suc e)).to (edge_at g (suc e)).from) || same_back node e i

  same_heads : (node : ℕ) → heads_up_to (diff_flow p g packs facts) node ≡ heads_up_to (cell_flow p g) node
  same_heads zero = refl
  same_heads (suc node) =
      λ i. (if same_back (suc node) (length g.edges) i then 1 else 0) + same_heads node i

  pub same_head_count : head_count (diff_flow p g packs facts) ≡ head_count (cell_flow p g)
  same_head_count = same_heads (length g.nodes)

-- with packs there are steps of the second layer
steps_of_packs : (p : Program) (g : Graph) (ps : List (List ℕ)) → 1 ≤ length ps → pack_steps p g ps ≡ layer_steps p g (pack_lattice p).height
steps_of_packs p g [] some = absurd (omega (arith, some))
steps_of_packs p g (pack ∷ ps) some = refl

-- ---- how many words a row has

some_words : (ns : List ℕ) → 1 ≤ length ns → 1 ≤ width_of ns
some_words [] some = absurd (omega (arith, some))
some_words (n ∷ ns) some =
    let one : 1 ≤ n + 1 = omega arith in
    let square = mul-le-mul_left (n + 1) one in
    omega (arith, square)

-- ---- the second layer of the code

module _ (p : Program) (g : Graph) (packs : List declared.Pack) (lists : List (Vec ℤ Global)) (given : ArePacksGiven p packs lists)
    (facts : ℕ → List ℤ) where
  abbrev packs_there : List Pack
  packs_there = of_code.packs_of p packs

  abbrev lattice_there : Lattice
  lattice_there = diff_lattice packs_there (lists_of lists)

  abbrev flow_there : Flow
  flow_there = diff_flow p g packs_there facts

  packs_same : packs_there ≡ packs_for p
  packs_same = packs_in_are p packs ∙ ap (map (pack_in (homes_of p))) given.packs_are

  lattice_same : lattice_there ≡ pack_lattice p
  lattice_same = λ i. diff_lattice (packs_same i) (given.lists_are i)

  pub bounds_solved : (bounds : ℕ → List ℤ) → IsInductive lattice_there flow_there bounds → IsDominated lattice_there flow_there bounds →
      AreSolvedBounds p g facts bounds
  bounds_solved bounds inductive dominated = record {
    inductive =
        subst (λ (ps : List Pack). IsInductive (diff_lattice ps (pack_lists p)) (diff_flow p g ps facts) bounds) packs_same
        (subst (λ (ls : List (List ℤ)). IsInductive (diff_lattice packs_there ls) flow_there bounds) given.lists_are inductive);
    dominated =
        subst (λ (ps : List Pack). IsDominated (diff_lattice ps (pack_lists p)) (diff_flow p g ps facts) bounds) packs_same
        (subst (λ (ls : List (List ℤ)). IsDominated (diff_lattice packs_there ls) flow_there bounds) given.lists_are dominated);
  }

  -- the rows are kept and show what they clear in the layer of the code too
  pub bounds_there : (bounds : ℕ → List ℤ) → AreSolvedBounds p g facts bounds → IsInductive lattice_there flow_there bounds
  bounds_there bounds found =
      subst (λ (ls : List (List ℤ)). IsInductive (diff_lattice packs_there ls) flow_there bounds) (sym given.lists_are)
      (subst (λ (ps : List Pack). IsInductive (diff_lattice ps (pack_lists p)) (diff_flow p g ps facts) bounds) (sym packs_same) found.inductive)

  pub bounds_show : (bounds : ℕ → List ℤ) → 1 ≤ length packs →
      TestsTell flow_there (diff_meaning p g packs_there facts) bounds (clears p g (packs_of p) (solved p facts bounds))
  bounds_show bounds some =
      let many = given_count p packs lists given in
      subst (λ (ps : List Pack). TestsTell (diff_flow p g ps facts) (diff_meaning p g ps facts) bounds (clears p g (packs_of p) (solved p facts bounds)))
      (sym packs_same)
      (packs_show p g (packs_of p) (solved p facts bounds) facts bounds (λ node first last. refl) (λ node first last. refl)
      (λ none. absurd (let no = ap length none in omega (arith, many, some, no))))

  sizes_same : layer.sizes_of packs_there ≡ sizes_of (cells_in packs)
  sizes_same = ap layer.sizes_of (packs_in_are p packs) ∙ sizes_are p g (record { cells = 0; packs = cells_in packs; nodes = [] })

  pub words_fit : (words : ℕ) → words ≡ width_of (sizes_of (cells_in packs)) → words ≡ lattice_there.width
  words_fit words e =
      let many : length (lists_of lists) ≡ length (layer.sizes_of packs_there) =
      length-map lists (λ list. list.items) ∙ given_listed p packs lists given ∙ sym (length-map packs (λ pack. pack.cells.items))
      ∙ sym (length-map (cells_in packs) length) ∙ ap length (sym sizes_same) in
      e ∙ ap width_of (sym sizes_same) ∙ sym (width_is (layer.sizes_of packs_there) (lists_of lists) many)

  pub words_there : (words : ℕ) → words ≡ lattice_there.width → words ≡ width_of (sizes_of (cells_in packs))
  words_there words e = e ∙ sym (words_fit (width_of (sizes_of (cells_in packs))) refl)

  sizes_many : length (sizes_of (cells_in packs)) ≡ length packs
  sizes_many = length-map (cells_in packs) length ∙ length-map packs (λ pack. pack.cells.items)

  pub has_words : (words : ℕ) → words ≡ lattice_there.width → 1 ≤ length packs → 1 ≤ words
  has_words words e some =
      let same = words_there words e in
      let many = sizes_many in
      let more = some_words (sizes_of (cells_in packs)) (omega (arith, many, some)) in
      omega (arith, same, more)

  pub rows_fit : (nodes words : ℕ) → words ≡ lattice_there.width → nodes ≤ most_nodes → length (cells_of p) ≤ most_cells → (nodes + 2) * words ≤ 2 ^ 32
  rows_fit nodes words e few small =
      let same = words_there words e in
      let many = sizes_many in
      let packs_few = given_few p packs lists given in
      let most = few_words (sizes_of (cells_in packs)) (given_small p packs lists given small) in
      let most_words : words ≤ 2592 = omega (arith, same, many, packs_few, most) in
      let room = mul-le-mul_left (nodes + 2) most_words in
      omega (arith, room, few)

  pub steps_fit : (before after : ℕ) → 1 ≤ length packs → after ≤ before + step_bound lattice_there flow_there →
      after ≤ before + pack_steps p g (packs_of p)
  steps_fit before after some h =
      let many = given_count p packs lists given in
      let same : step_bound lattice_there flow_there ≡ layer_steps p g (pack_lattice p).height =
      λ i. length g.edges * (same_head_count p g packs_there facts i * (lattice_same i).height + 2) in
      subst (λ n. after ≤ before + n) (same ∙ sym (steps_of_packs p g (packs_of p) (omega (arith, many, some)))) h

-- ---- the first layer of the code

module _ (p : Program) (g : Graph) (lists : List (List ℤ)) (same : lists ≡ thresholds_of p) where
  pub cells_solved : (rows : ℕ → List ℤ) → IsInductive (cells_lattice (owns p) lists) (cell_flow p g) rows →
      IsDominated (cells_lattice (owns p) lists) (cell_flow p g) rows → AreSolvedCells p g rows
  cells_solved rows inductive dominated = record {
    inductive = subst (λ (ls : List (List ℤ)). IsInductive (cells_lattice (owns p) ls) (cell_flow p g) rows) same inductive;
    dominated = subst (λ (ls : List (List ℤ)). IsDominated (cells_lattice (owns p) ls) (cell_flow p g) rows) same dominated;
  }

  pub cells_there : (rows : ℕ → List ℤ) → AreSolvedCells p g rows → IsInductive (cells_lattice (owns p) lists) (cell_flow p g) rows
  cells_there rows found = subst (λ (ls : List (List ℤ)). IsInductive (cells_lattice (owns p) ls) (cell_flow p g) rows) (sym same) found.inductive

  pub cell_steps_fit : (before after : ℕ) → after ≤ before + step_bound (cells_lattice (owns p) lists) (cell_flow p g) →
      after ≤ before + layer_steps p g (height_of (thresholds_of p))
  cell_steps_fit before after h = subst (λ (ls : List (List ℤ)). after ≤ before + layer_steps p g (height_of ls)) same h

-- ---- without packs

abbrev lattice_for : Program → List (List ℕ) → Lattice
lattice_for p ps = diff_lattice (map (pack_in (homes_of p)) ps) (map (thresholds_of_pack (cells_of p) (thresholds_of p)) ps)

abbrev flow_for : Program → Graph → (ℕ → List ℤ) → List (List ℕ) → Flow
flow_for p g rows ps = diff_flow p g (map (pack_in (homes_of p)) ps) rows

pub none_solved : (p : Program) (g : Graph) (rows : ℕ → List ℤ) → packs_of p ≡ [] → AreSolvedBounds p g rows (λ node. [])
none_solved p g rows none = record {
  inductive =
      subst (λ (ps : List (List ℕ)). IsInductive (lattice_for p ps) (flow_for p g rows ps) (λ node. [])) (sym none)
      (record { elements = λ node is. record { width = refl; formed = tt }; entry = tt; edges = λ e is. tt });
  dominated =
      subst (λ (ps : List (List ℕ)). IsDominated (lattice_for p ps) (flow_for p g rows ps) (λ node. [])) (sym none)
      (λ others inductive heads node is. tt);
}
