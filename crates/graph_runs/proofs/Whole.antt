-- No edge of a program's graph enters a loop but that of its test.
use Rattle.std.proofs.Common.{◌≡◌, ℕ, zero, suc, ◌+◌, ◌-◌, true, false, List, [], ◌∷◌, length, Some, refl, sym, ap, subst, ◌∙◌, arith}
use Rattle.std.specs.Prelude.{slice_get, Contains}
use Rattle.std.proofs.lemmas.Bool.{false≢true}
use Rattle.std.proofs.lemmas.Option.{same_Some, none-some}
use Rattle.cob_program.specs.Act.{Program}
use Rattle.cob_runs.specs.declared.action.Action.{Action}
use Rattle.cob_graph.specs.declared.graph.Node.{Node}
use Rattle.cob_graph.specs.declared.graph.Graph.{Graph}
use Rattle.cob_graph.specs.Laid.{LaidParas, no_laid_paras, more_laid_paras, no_laid, more_laid, paras_size}
use Rattle.cob_graph.specs.Places.{first_of_paras}
use Rattle.cob_graph.specs.Nodes.{Noded, paras_nodes}
use Rattle.cob_graph.specs.Graphs.{final_of, final_node, main_copy, all_nodes, as_node, last_para, IsMainCopy, IsGraph}
use Rattle.cob_graph.specs.Lookup.{node_at, edge}
use Rattle.cob_graph.specs.WellFormed.{IsWellFormed}
use Rattle.cob_graph.proofs.Lengths.{length-paras}
use Rattle.cob_graph_laws.proofs.InGraphs.{node_there, edges_are_laid}
use Rattle.graph_runs.proofs.Inside.{parted, in_paras, is_inside, Follows, low, high, first_place}
use Rattle.graph_runs.proofs.Entering.{Setting, Below, IsFine, AreFine, AllFine, joined, at_node, Leads, Fits}
use Rattle.graph_runs.proofs.Firsts.{ParasAt, first_para, first_paras}
use Rattle.graph_runs.proofs.Statements.{paras_fine}

-- paragraphs begin at their first number, where all their nodes end at what follows
starts_at : (ps : LaidParas) (at next : ℕ) → next ≡ at + paras_size ps → first_of_paras ps at next ≡ at
starts_at no_laid_paras at next e = omega (arith, e)
starts_at (more_laid_paras no_laid ps) at next e =
    starts_at ps (at + 0) next (omega (arith, e)) ∙ omega arith
starts_at (more_laid_paras (more_laid x xs) ps) at next e = refl

module _ (p : Program) (whole : IsWellFormed p) (ps : LaidParas) (laid : IsMainCopy p ps) (loop : ℕ) where
  abbrev pub setting : Setting
  setting = record { p = p; loop = loop; inside = is_inside loop ps }

  follows : Follows setting.inside 1 (paras_size ps + 1)
      (λ i. parted (paras_size ps) (λ j. in_paras loop false ps j) (λ j. false) i)
  follows i l =
      let same : 1 + i - 1 ≡ i = omega arith in
      ap (parted (paras_size ps) (λ j. in_paras loop false ps j) (λ j. false)) same

  paras_follow : ParasAt setting false 1 ps
  paras_follow =
      low setting.inside 1 (paras_size ps + 1) (paras_size ps) (λ j. in_paras loop false ps j) (λ j. false) follows
      (omega arith)

  final_below : Below setting false (final_of ps)
  final_below =
      at_node setting (final_of ps) false
      (first_place setting.inside (1 + paras_size ps) 1 (λ j. false)
      (high setting.inside 1 (paras_size ps + 1) (paras_size ps) (λ j. in_paras loop false ps j) (λ j. false) follows 1
      (omega arith)) (omega arith))

  none_fits : (n : ℕ) → Fits setting false n
  none_fits n e = absurd (false≢true e)

  leads : Leads setting (main_copy p ps) false
  leads = record {
    paras = λ t. first_para setting false 0 (last_para p) whole t 0 (length p.paras) ps 1 (final_of ps) laid
        paras_follow final_below;
    final = final_below;
  }

  all_fine : AllFine setting 1 (all_nodes p ps)
  all_fine =
      joined setting 1 (paras_size ps) (paras_nodes (main_copy p ps) ps 1 (final_of ps)) (final_node ∷ [])
      (length-paras (main_copy p ps) ps 1 (final_of ps))
      (paras_fine setting whole (main_copy p ps) false 0 (last_para p) 0 (length p.paras) ps 1 (final_of ps) leads laid
      (none_fits (paras_size ps)) paras_follow final_below)
      (tt, tt)

  pub first_below : Below setting false 1
  first_below =
      subst (λ (n : ℕ). Below setting false n) (starts_at ps 1 (final_of ps) refl)
      (first_paras setting false 0 (last_para p) whole 0 (length p.paras) ps 1 (final_of ps) laid paras_follow
      final_below)

module _ (s : Setting) where
  found : (ns : List Noded) (at k : ℕ) (x : Noded) → AllFine s at ns → slice_get ns k ≡ Some x →
      AreFine s (at + k) x.statement x.out
  found [] at k x h e = absurd (none-some x e)
  found (y ∷ ns) at zero x h e =
      let same : at ≡ at + 0 = omega arith in
      subst (λ (i : ℕ). AreFine s i x.statement x.out) same
      (subst (λ (z : Noded). AreFine s at z.statement z.out) (same_Some y x e) h.0)
  found (y ∷ ns) at (suc k) x h e =
      let same : at + 1 + k ≡ at + suc k = omega arith in
      subst (λ (i : ℕ). AreFine s i x.statement x.out) same (found ns (at + 1) k x h.1 e)

  numbered : (ns : List Noded) (n : ℕ) (x : Noded) → AllFine s 1 ns → node_at ns n ≡ Some x →
      AreFine s n x.statement x.out
  numbered ns zero x h e = absurd (none-some x e)
  numbered ns (suc n) x h e =
      let same : 1 + n ≡ suc n = omega arith in
      subst (λ (i : ℕ). AreFine s i x.statement x.out) same (found ns 1 n x h e)

  among : (n number : ℕ) (out : List (Action × ℕ)) (a : Action) (m : ℕ) → AreFine s n number out →
      Contains out (a, m) → IsFine s n number a m
  among n number [] a m h (k, l, e) = absurd (omega (arith, l))
  among n number (x ∷ xs) a m h (zero, l, e) = subst (λ (y : Action × ℕ). IsFine s n number y.0 y.1) e h.0
  among n number (x ∷ xs) a m h (suc k, l, e) = among n number xs a m h.1 (k, omega (arith, l), e)

-- ---- the graph's own

module _ (p : Program) (g : Graph) (is : IsGraph p g) (whole : IsWellFormed p) (loop : ℕ) where
  abbrev pub of_graph : Setting
  of_graph = setting p whole is.copies is.laid loop

  pub first_outside : of_graph.inside 1 ≡ true → ⊥
  first_outside e = false≢true (first_below p whole is.copies is.laid loop e)

  pub edge_fine : (n : ℕ) (x : Node) (a : Action) (m : ℕ) → node_at g.nodes n ≡ Some x →
      Contains g.edges (edge n a m) → IsFine of_graph n x.statement a m
  edge_fine n x a m stands out =
      let y = (edges_are_laid p g is n a m).0 out in
      let same : as_node y.0 ≡ x = same_Some (as_node y.0) x (sym (node_there p g is n y.0 y.1) ∙ stands) in
      subst (λ (z : Node). IsFine of_graph n z.statement a m) same
      (among of_graph n y.0.statement y.0.out a m
      (numbered of_graph (all_nodes p is.copies) n y.0 (all_fine p whole is.copies is.laid loop) y.1) y.2)
