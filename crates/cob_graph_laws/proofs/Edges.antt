-- The edges that leave one node of a graph.
use Rattle.std.proofs.Common.{◌≡◌, ◌<◌, ◌⊎◌, inl, inr, ℕ, zero, suc, true, List, [], ◌∷◌, length, Some, sym, ap, subst, ◌∙◌, arith, length-append}
use Rattle.std.specs.Prelude.{slice_get, Contains}
use Rattle.std.specs.Option.{option_map}
use Rattle.std.proofs.lemmas.Bool.{false≢true}
use Rattle.std.proofs.lemmas.Option.{same_Some, none-some, slice_get-get_or}
use Rattle.std.proofs.lemmas.List.{length-map}
use Rattle.std.proofs.Math.Seq.{get_or-append_seam}
use Rattle.cob_program.specs.Act.{Program}
use Rattle.cob_runs.specs.declared.action.Action.{Action}
use Rattle.cob_graph.specs.declared.graph.Node.{Node}
use Rattle.cob_graph.specs.declared.graph.Graph.{Graph}
use Rattle.cob_graph.specs.Nodes.{Noded, paras_nodes}
use Rattle.cob_graph.specs.Graphs.{all_nodes, as_node, final_of, final_node, main_copy, IsGraph}
use Rattle.cob_graph.specs.Lookup.{node_at, edge, final_in}
use Rattle.cob_graph_laws.proofs.InGraphs.{nodes_are_laid, edges_are_laid}
use Rattle.cob_graph_laws.proofs.Apart.{Rivals, turned_rivals}
use Rattle.cob_graph_laws.proofs.Forks.{AreRivals, IsFork, EachForks, program_forks}

-- the same, or never both taken
abbrev pub SameOrRivals : Action → Action → ℕ → ℕ → Type 0
SameOrRivals a b m n = (a ≡ b) × (m ≡ n) ⊎ Rivals a b

rival_of : (out : List (Action × ℕ)) (a b : Action) (m : ℕ) → AreRivals a out → Contains out (b, m) → Rivals a b
rival_of [] a b m r (k, l, e) = absurd (omega (arith, l))
rival_of (x ∷ xs) a b m r (zero, l, e) = subst (λ (y : Action × ℕ). Rivals a y.0) e r.0
rival_of (x ∷ xs) a b m r (suc k, l, e) = rival_of xs a b m r.1 (k, omega (arith, l), e)

-- two edges at one place, or rivals
of_fork : (out : List (Action × ℕ)) (a b : Action) (m n : ℕ) → IsFork out → Contains out (a, m) → Contains out (b, n) →
    SameOrRivals a b m n
of_fork [] a b m n f (k, l, e) h = absurd (omega (arith, l))
of_fork (x ∷ xs) a b m n f (zero, l, e) (zero, l2, e2) =
    let same = sym e ∙ e2 in inl (ap (λ (y : Action × ℕ). y.0) same, ap (λ (y : Action × ℕ). y.1) same)
of_fork (x ∷ xs) a b m n f (zero, l, e) (suc k, l2, e2) =
    inr (subst (λ (y : Action × ℕ). Rivals y.0 b) e (rival_of xs x.0 b n f.0 (k, omega (arith, l2), e2)))
of_fork (x ∷ xs) a b m n f (suc k, l, e) (zero, l2, e2) =
    inr (turned_rivals b a
    (subst (λ (y : Action × ℕ). Rivals y.0 a) e2 (rival_of xs x.0 a m f.0 (k, omega (arith, l), e))))
of_fork (x ∷ xs) a b m n f (suc k, l, e) (suc i, l2, e2) =
    of_fork xs a b m n f.1 (k, omega (arith, l), e) (i, omega (arith, l2), e2)

fork_at : (ns : List Noded) (k : ℕ) (x : Noded) → EachForks ns → slice_get ns k ≡ Some x → IsFork x.out
fork_at [] k x f e = absurd (none-some x e)
fork_at (y ∷ ns) zero x f e = subst (λ (z : Noded). IsFork z.out) (same_Some y x e) f.0
fork_at (y ∷ ns) (suc k) x f e = fork_at ns k x f.1 e

module _ (p : Program) (g : Graph) (is : IsGraph p g) where
  abbrev all : List Noded
  all = all_nodes p is.copies

  abbrev before_last : List Noded
  before_last = paras_nodes (main_copy p is.copies) is.copies 1 (final_of is.copies)

  node_fork : (n : ℕ) (x : Noded) → node_at all n ≡ Some x → IsFork x.out
  node_fork zero x e = absurd (none-some x e)
  node_fork (suc n) x e = fork_at all n x (program_forks p is.copies).each e

  -- ---- two edges from one node

  pub one_edge : (n : ℕ) (a b : Action) (m l : ℕ) → Contains g.edges (edge n a m) → Contains g.edges (edge n b l) →
      SameOrRivals a b m l
  one_edge n a b m l h i =
      let x = (edges_are_laid p g is n a m).0 h in
      let y = (edges_are_laid p g is n b l).0 i in
      let same : y.0 ≡ x.0 = same_Some y.0 x.0 (sym y.1 ∙ x.1) in
      of_fork x.0.out a b m l (node_fork n x.0 x.1) x.2 (subst (λ (z : Noded). Contains z.out (b, l)) same y.2)

  -- ---- the final node

  last : node_at all (final_in g) ≡ Some final_node
  last =
      let final : final_in g ≡ suc (length before_last) = omega (
        arith,
        ap length is.nodes,
        length-map all as_node,
        length-append before_last (final_node ∷ []),
      ) in
      let inside : length before_last < length all = omega (arith, length-append before_last (final_node ∷ [])) in
      ap (node_at all) final ∙ slice_get-get_or all (length before_last) final_node inside
      ∙ ap Some (get_or-append_seam before_last final_node [] final_node)

  pub no_edge : (a : Action) (m : ℕ) → Contains g.edges (edge (final_in g) a m) → ⊥
  no_edge a m h =
      let x = (edges_are_laid p g is (final_in g) a m).0 h in
      let same : x.0 ≡ final_node = same_Some x.0 final_node (sym x.1 ∙ last) in
      let there = subst (λ (z : Noded). Contains z.out (a, m)) same x.2 in
      let l = there.1 in omega (arith, l)

  pub no_start : (x : Node) → node_at g.nodes (final_in g) ≡ Some x → x.starts ≡ true → ⊥
  no_start x e starts =
      let there = nodes_are_laid p g is (final_in g) ∙ ap (option_map as_node) last in
      let same : as_node final_node ≡ x = same_Some (as_node final_node) x (sym there ∙ e) in
      false≢true (ap (λ (y : Node). y.starts) same ∙ starts)
