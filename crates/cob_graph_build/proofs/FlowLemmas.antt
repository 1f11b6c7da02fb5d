-- The whole graph, from what is laid of the main copy.
use Rattle.std.proofs.Common.{ℕ, suc, ◌+◌, ◌-◌, ◌≡◌, ◌<◌, ◌≤◌, min, Bool, true, List, [], ◌∷◌, ◌++◌, length, map, Result, Err, refl, sym, ap, ◌∙◌, subst, arith}
use Rattle.std.proofs.Math.Nat.{sub-zero}
use Rattle.cob_data.specs.declared.end.Which.{Which}
use Rattle.cob_data.specs.declared.end.Which.TheVariants.{Cells, Nodes}
use Rattle.cob_program.specs.Act.{Program}
use Rattle.cob_graph.specs.declared.end.FlowEnd.{FlowEnd}
use Rattle.cob_graph.specs.declared.end.FlowEnd.TheVariants as end
use Rattle.cob_runs.specs.declared.action.Cell.{Cell}
use Rattle.cob_graph_build.specs.declared.counting.Entry.{Entry}
use Rattle.cob_graph.specs.declared.graph.Graph.{Graph}
use Rattle.cob_graph.specs.Laid.{LaidParas, paras_size}
use Rattle.cob_graph.specs.Places.{first_of_para}
use Rattle.cob_graph.specs.Nodes.{Copied, Noded, paras_nodes}
use Rattle.cob_graph.specs.Graphs.{last_para, final_of, main_copy, final_node, all_nodes, as_node, edges_of, cells_of, IsMainCopy, IsGraph, IsOver, HasNodes, HasTooManyNodes, HasTooManyCells}
use Rattle.cob_graph.specs.Limits.{most_told, most_cells, most_nodes}
use Rattle.cob_graph_build.specs.Sizes.{range_size, range_fits}
use Rattle.cob_graph_build.specs.Tables.{lay_paras, copy_in, is_in, size_in, main_paras, IsTable}
use mathlib.Core.Path.{fun_ext}
use Rattle.cob_graph_build.specs.Growing.{Seen, grown}
use Rattle.cob_graph_build.proofs.Growth.{grown_more}
use Rattle.cob_graph.proofs.Lengths.{final_is}
use Rattle.cob_graph_build.specs.Limits.{IsWithinLimits}
use Rattle.cob_graph_build.proofs.Cuts.{counted_all, counted_more, counted_most}
use Rattle.cob_graph_build.proofs.SizeLemmas.{table_sizes, table_laid, alike_paras, laid_paras}

pub main_laid : (p : Program) (es : List Entry) (paras : ℕ) → IsTable p es → paras ≡ length p.paras →
    range_fits (is_in es) 0 (paras - 1) p 0 (paras - 0) ≡ true → IsMainCopy p (main_paras p es)
main_laid p es paras h is fits =
    laid_paras p (is_in es) (copy_in p es) (table_laid p es h) 0 (last_para p) (length p.paras) 0
    (subst (λ n. range_fits (is_in es) 0 (n - 1) p 0 n ≡ true) is
    (subst (λ n. range_fits (is_in es) 0 (paras - 1) p 0 n ≡ true) (sub-zero paras) fits))

module _ (p : Program) (es : List Entry) (paras sum count : ℕ) (h : IsTable p es) (is : paras ≡ length p.paras)
    (summed : sum ≡ min (range_size (size_in es) p 0 (paras - 0)) most_told)
    (counted : count ≡ min (1 + sum) most_told) where
  told : count ≡ min (final_of (main_paras p es)) most_told
  told = counted_all most_told sum count (range_size (size_in es) p 0 (length p.paras)) (paras_size (main_paras p es))
      (summed ∙ ap (λ n. min (range_size (size_in es) p 0 n) most_told) (sub-zero paras ∙ is)) counted
      (alike_paras p most_told (size_in es) (copy_in p es) (table_sizes p es h) (length p.paras) 0)

  pub all_told : count ≡ min (final_of (main_paras p es)) most_told
  all_told = told

  pub too_many : length (cells_of p) ≤ most_cells → range_fits (is_in es) 0 (paras - 1) p 0 (paras - 0) ≡ true →
      most_nodes < count → HasTooManyNodes p count
  too_many few fits over = record {
    cells = few;
    nodes = final_of (main_paras p es);
    counted = record { copies = main_paras p es; laid = main_laid p es paras h is fits; counted = refl };
    over = counted_more most_told count (final_of (main_paras p es)) most_nodes told over;
    told = told;
  }

pub is_graph : (p : Program) (es : List Entry) (paras : ℕ) (g : Graph) → IsTable p es → paras ≡ length p.paras →
    range_fits (is_in es) 0 (paras - 1) p 0 (paras - 0) ≡ true →
    g.nodes ≡ map as_node (all_nodes p (main_paras p es)) → g.edges ≡ edges_of 1 (all_nodes p (main_paras p es)) →
    g.cells ≡ cells_of p → IsGraph p g
is_graph p es paras g h is fits nodes edges cells =
    record {
      copies = main_paras p es;
      laid = main_laid p es paras h is fits;
      nodes = nodes;
      edges = edges;
      cells = cells;
    }

-- ---- the main copy

module _ (p : Program) (es : List Entry) (paras nodes : ℕ) (is : paras ≡ length p.paras)
    (final : nodes ≡ final_of (main_paras p es)) where
  abbrev here_of : (ℕ → ℕ) → ℕ → Copied
  here_of f n = record { layout = p.layout; sites = []; para = f; final = n }

  -- what is laid is given by these
  abbrev pub laid_from : LaidParas
  laid_from = lay_paras p (copy_in p es) 0 (paras - 0)

  abbrev pub laid_in : Copied
  laid_in = here_of (λ n. first_of_para (n - 0) laid_from 1 nodes) nodes

  paras_are : laid_from ≡ main_paras p es
  paras_are = ap (λ n. lay_paras p (copy_in p es) 0 n) (sub-zero paras ∙ is)

  places_are : (n : ℕ) → first_of_para (n - 0) laid_from 1 nodes ≡ first_of_para n (main_paras p es) 1
      (final_of (main_paras p es))
  places_are n =
      ap (λ k. first_of_para k laid_from 1 nodes) (sub-zero n) ∙ ap (λ ps. first_of_para n ps 1 nodes) paras_are
      ∙ ap (λ k. first_of_para n (main_paras p es) 1 k) final

  copy_is_main : laid_in ≡ main_copy p (main_paras p es)
  copy_is_main =
      ap (λ (f : ℕ → ℕ). here_of f nodes) (fun_ext places_are)
      ∙ ap (λ k. here_of (λ n. first_of_para n (main_paras p es) 1 (final_of (main_paras p es))) k) final

  nodes_are : paras_nodes laid_in laid_from 1 nodes ++ final_node ∷ [] ≡ all_nodes p (main_paras p es)
  nodes_are =
      ap (λ c. paras_nodes c laid_from 1 nodes ++ final_node ∷ []) copy_is_main
      ∙ ap (λ ps. paras_nodes (main_copy p (main_paras p es)) ps 1 nodes ++ final_node ∷ []) paras_are
      ∙ ap (λ k. paras_nodes (main_copy p (main_paras p es)) (main_paras p es) 1 k ++ final_node ∷ []) final

  pub whole : (none laid all : Seen) → none ≡ record { nodes = []; edges = [] } →
      laid ≡ grown none (paras_nodes laid_in laid_from 1 nodes) → all ≡ grown laid (final_node ∷ []) →
      all ≡ record {
        nodes = map as_node (all_nodes p (main_paras p es));
        edges = edges_of 1 (all_nodes p (main_paras p es));
      }
  whole none laid all empty one two =
      grown_more none laid all (paras_nodes laid_in laid_from 1 nodes) (final_node ∷ []) one two
      ∙ ap (λ s. grown s (paras_nodes laid_in laid_from 1 nodes ++ final_node ∷ [])) empty
      ∙ ap (λ ns. grown (record { nodes = []; edges = [] }) ns) nodes_are

-- ---- limits

module _ {T : Type 0} (p : Program) (told_ : ℕ) (r : Result T FlowEnd) where
  pub over_nodes : HasTooManyNodes p told_ → r ≡ Err (end.Limit Nodes told_) → (which : Which) (count : ℕ) →
      r ≡ Err (end.Limit which count) → IsOver p which count
  over_nodes over is which count same =
      let one : Nodes ≡ which = cc in
      let two : told_ ≡ count = cc in
      subst (λ w. IsOver p w count) one (subst (λ n. HasTooManyNodes p n) two over)

  pub over_cells : HasTooManyCells p told_ → r ≡ Err (end.Limit Cells told_) → (which : Which) (count : ℕ) →
      r ≡ Err (end.Limit which count) → IsOver p which count
  over_cells over is which count same =
      let one : Cells ≡ which = cc in
      let two : told_ ≡ count = cc in
      subst (λ w. IsOver p w count) one (subst (λ n. HasTooManyCells p n) two over)

-- a graph that isn't over them
pub in_limits : (p : Program) (es : List Entry) (g : Graph) (told_ : ℕ) → IsMainCopy p (main_paras p es) →
    g.nodes ≡ map as_node (all_nodes p (main_paras p es)) → g.edges ≡ edges_of 1 (all_nodes p (main_paras p es)) →
    g.cells ≡ cells_of p →
    told_ ≡ min (final_of (main_paras p es)) most_told → told_ ≤ most_nodes → length (cells_of p) ≤ most_cells → IsWithinLimits g
in_limits p es g told_ laid nodes edges cells counted fits few = record {
  cells = subst (λ n. n ≤ most_cells) (ap (λ cs. length cs) (sym cells)) few;
  nodes = subst (λ n. n ≤ most_nodes) (final_is p g (record {
    copies = main_paras p es;
    laid = laid;
    nodes = nodes;
    edges = edges;
    cells = cells;
  }))
      (counted_most most_told told_ (final_of (main_paras p es)) most_nodes counted (omega arith) fits);
}
