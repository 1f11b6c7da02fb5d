-- Own ranges of a source's cells, and their thresholds.
use Rattle.std.proofs.Common.{◌≡◌, ℕ, ◌+◌, ◌*◌, ◌≤◌, List, [], ◌∷◌, length, map, Bool, true, false, ℤ, sym, ap, ◌∙◌, subst, arith}
use Rattle.std.specs.List.{AllByRecursion}
use Rattle.std.proofs.Props.{props}
use Rattle.std.proofs.Math.Logic.{∥∥₁_elim}
use Rattle.std.proofs.lemmas.Int.{ints}
use Rattle.std.proofs.lemmas.List.{length-map}
use Rattle.std.proofs.lemmas.List.Elements.{All-from_recursion, recursion_from_All}
use Rattle.dec_num.proofs.Powers.{ten_monotone, ten_positive}
use Rattle.cob_program.specs.Act.{Program}
use Rattle.cob_runs.specs.declared.action.Cell.{Cell}
use Rattle.cob_graph.specs.declared.graph.Graph.{Graph}
use Rattle.cob_graph.specs.Graphs.{cells_of}
use Rattle.graph_runs.specs.Sources.{IsSourceGraph}
use Rattle.interval_domain.specs.declared.bounds.Interval.{Interval}
use Rattle.dom_laws.specs.Flow.{IsInductive}
use Rattle.interval_domain.specs.Elements.{AreThresholds}
use Rattle.interval_domain.specs.Rows.{cells_lattice}
use Rattle.cell_steps.specs.OwnRanges.{own_range, picture_range, owns}
use Rattle.cell_laws.proofs.Homes.{homes_have_own_ranges}
use Rattle.cell_laws.specs.Layer.{cell_flow}
use Rattle.cert_text.specs.Gaps.{IsSmall}
use Rattle.cert_check.proofs.Asking.{is_said, is_small}
use Rattle.analyse_core.specs.Literals.{program_literals}
use Rattle.analyse_core.specs.Thresholds.{IsSmallCell, thresholds_of}
use Rattle.analyse_core.specs.Certificates.{CanBeClaimed}
use Rattle.analyse_core.proofs.CellLists.{are_thresholds, ListsLieIn, lists_lie_in}
use Rattle.analyse_core.proofs.CellSizes.{graph_cells_small, cells_are}

-- ---- own ranges

range_small : (digits : ℕ) (signed : Bool) → digits ≤ 18 → IsSmall (picture_range digits signed)
range_small digits true h =
    let m = ten_monotone digits 18 h in let n = ten_positive digits in
    record { low = omega (arith, ints, m, n); high = omega (arith, ints, m, n) }
range_small digits false h =
    let m = ten_monotone digits 18 h in let n = ten_positive digits in
    record { low = omega (arith, ints, m, n); high = omega (arith, ints, m, n) }

ranges_small : (cells : List Cell) → AllByRecursion IsSmallCell cells → AllByRecursion IsSmall (map own_range cells)
ranges_small [] h = tt
ranges_small (c ∷ cells) (h, hs) = (range_small c.digits c.signed h.digits, ranges_small cells hs)

module _ (p : Program) (g : Graph) (source : ∥ IsSourceGraph p g ∥₁) where
  pub own_is : owns p ≡ map own_range (cells_of p)
  own_is = homes_have_own_ranges p

  pub thresholds_are : AreThresholds (owns p) (thresholds_of p)
  thresholds_are = subst (λ (os : List Interval). AreThresholds os (thresholds_of p)) (sym own_is) (are_thresholds (program_literals p) (cells_of p))

  pub thresholds_lie_in : ListsLieIn (owns p) (thresholds_of p)
  thresholds_lie_in = subst (λ (os : List Interval). ListsLieIn os (thresholds_of p)) (sym own_is) (lists_lie_in (program_literals p) (cells_of p))

  pub owns_small : AllByRecursion IsSmall (owns p)
  owns_small =
      subst (AllByRecursion IsSmall) (sym own_is)
      (ranges_small (cells_of p)
      (subst (AllByRecursion IsSmallCell) (cells_are p g source) (recursion_from_All IsSmallCell g.cells (graph_cells_small p g source))))

  pub owns_count : length (owns p) ≡ length (cells_of p)
  owns_count = ap length own_is ∙ length-map (cells_of p) own_range

-- ---- rows that the edges keep can be claimed

module _ (p : Program) (g : Graph) (source : ∥ IsSourceGraph p g ∥₁) (rows : ℕ → List ℤ)
    (inductive : IsInductive (cells_lattice (owns p) (thresholds_of p)) (cell_flow p g) rows) where
  pub row_can_be_claimed : (cells : ℕ) → cells ≡ length (cells_of p) → (node : ℕ) → 1 ≤ node → node ≤ length g.nodes → CanBeClaimed cells (rows node)
  row_can_be_claimed cells e node l h =
      let is = inductive.elements node (record { first = l; last = h }) in
      let width = is.width in
      let count = owns_count p g source in
      record {
        said = is_said (owns p) (thresholds_of p) (rows node) is;
        width = omega (arith, width, count, e);
        small = is_small (owns p) (thresholds_of p) (rows node) is (All-from_recursion IsSmall (owns p) (owns_small p g source));
      }
