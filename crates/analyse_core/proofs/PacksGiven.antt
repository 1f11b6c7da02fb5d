-- The packs that an analysis is given.
use Rattle.std.proofs.Common.{◌≡◌, ℕ, ◌^◌, ◌<◌, ◌≤◌, ◌==◌, true, false, List, [], ◌∷◌, length, map, ℤ, refl, sym, ap, ◌∙◌, subst, arith}
use Rattle.std.specs.Prelude.{Vec, IsTrue, unsigned_abs}
use Rattle.std.specs.declared.alloc.Global.{Global}
use Rattle.std.specs.List.{AllByRecursion}
use Rattle.std.proofs.lemmas.Bool.{eqb-true, eqb-false}
use Rattle.std.proofs.lemmas.Int.{ints}
use Rattle.std.proofs.lemmas.List.{length-map}
use Rattle.std.proofs.lemmas.List.Elements.{recursion_from_All}
use Rattle.cob_program.specs.Act.{Program}
use Rattle.cob_runs.specs.declared.action.Cell.{Cell}
use Rattle.cob_graph.specs.declared.graph.Graph.{Graph}
use Rattle.cob_graph.specs.Graphs.{cells_of}
use Rattle.cob_graph.specs.Limits.{most_cells}
use Rattle.graph_runs.specs.Sources.{IsSourceGraph}
use Rattle.interval_domain.specs.declared.bounds.Interval.{Interval}
use Rattle.cell_steps.specs.OwnRanges.{owns}
use Rattle.cert_text.specs.Allowed.{packs_fit}
use Rattle.cert_text.specs.Gaps.{IsSmall}
use Rattle.cert_text.specs.MatrixClaims.{cells_in, sizes_of}
use Rattle.cert_text.proofs.Allowing.{claims_fit_there}
use Rattle.diff_bounds.specs.declared.Pack as declared
use Rattle.diff_bounds.specs.Widening.{AreThresholds}
use Rattle.pack_laws.specs.Packs.{ArePacksOfCells}
use Rattle.diff_bounds.specs.PackRows.{lists_of}
use Rattle.analyse_core.specs.Choice.{packs_of}
use Rattle.analyse_core.specs.PackThresholds.{HasFewCells, HasFewDecimals, IsCellList, thresholds_of_pack}
use Rattle.cert_check.proofs.PackNumbers.{packs_rise}
use Rattle.analyse_core.specs.Thresholds.{IsSmallCell, thresholds_of}
use Rattle.analyse_core.specs.Literals.{program_literals}
use Rattle.analyse_core.specs.Packs.{ArePacksGiven, pack_lists}
use Rattle.analyse_core.proofs.CellLists.{ListsLieIn, lists_short}
use Rattle.analyse_core.proofs.CellSizes.{cells_are, graph_cells_small}
use Rattle.analyse_core.proofs.Owned.{owns_small, thresholds_lie_in}
use Rattle.analyse_core.proofs.Rising.{LiesIn}

-- ---- sizes of packs

few_each : (packs : List (List ℕ)) → AllByRecursion (λ n. n ≤ 8) (sizes_of packs) → AllByRecursion HasFewCells packs
few_each [] few = tt
few_each (ns ∷ packs) few = (few.0, few_each packs few.1)

-- packs of a certificate have 8 cells at most
pub small_sizes : (cells : ℕ) (packs : List (List ℕ)) → cells ≤ most_cells → length packs ≤ 32 → IsTrue (packs_fit cells packs) →
    AllByRecursion (λ n. n ≤ 8) (sizes_of packs)
small_sizes cells packs few many fit =
    (claims_fit_there (record { cells = cells; packs = packs; nodes = [] })
    (record { cells = omega (arith, few); nodes = omega arith; packs = many; each_pack = fit; each_node = refl })).0

pub few_cells : (cells : ℕ) (packs : List (List ℕ)) → cells ≤ most_cells → length packs ≤ 32 → IsTrue (packs_fit cells packs) → AllByRecursion HasFewCells packs
few_cells cells packs few many fit = few_each packs (small_sizes cells packs few many fit)

-- ---- what is given of them

module _ (p : Program) (packs : List declared.Pack) (lists : List (Vec ℤ Global)) (given : ArePacksGiven p packs lists) where
  pub given_count : length packs ≡ length (packs_of p)
  given_count = sym (length-map packs (λ pack. pack.cells.items)) ∙ ap length given.packs_are

  pub given_few : length packs ≤ 32
  given_few = let few = given.ready.few in let same = given_count in omega (arith, few, same)

  pub given_small : length (cells_of p) ≤ most_cells → AllByRecursion (λ n. n ≤ 8) (sizes_of (cells_in packs))
  given_small few =
      subst (λ (ps : List (List ℕ)). AllByRecursion (λ n. n ≤ 8) (sizes_of ps)) (sym given.packs_are)
      (small_sizes (length (cells_of p)) (packs_of p) few given.ready.few given.ready.fit)

  pub given_rise : (count : ℕ) → count ≡ length (cells_of p) → ArePacksOfCells count packs
  given_rise count same =
      subst (λ n. ArePacksOfCells n packs) (sym same)
      (packs_rise (length (cells_of p)) packs
      (subst (λ (ps : List (List ℕ)). IsTrue (packs_fit (length (cells_of p)) ps)) (sym given.packs_are) given.ready.fit))

  pub given_listed : length lists ≡ length packs
  given_listed =
      sym (length-map lists (λ list. list.items)) ∙ ap length given.lists_are
      ∙ length-map (packs_of p) (thresholds_of_pack (cells_of p) (thresholds_of p)) ∙ sym given_count

  pub given_ends : AllByRecursion AreThresholds (lists_of lists)
  given_ends = subst (AllByRecursion AreThresholds) (sym given.lists_are) given.ready.ends

-- ---- whether there are packs

pub none_there : (packs items : List declared.Pack) → packs ≡ items → (length packs == 0) ≡ true → items ≡ []
none_there [] items same e = sym same
none_there (pack ∷ packs) items same e = absurd (let none = eqb-true (length (pack ∷ packs)) 0 e in omega (arith, none))

pub some_there : (packs items : List declared.Pack) → packs ≡ items → (length packs == 0) ≡ false → 1 ≤ length items
some_there [] items same e = absurd (eqb-false 0 0 e refl)
some_there (pack ∷ packs) items same e = let many = ap length same in omega (arith, many)

-- ---- thresholds of cells

module _ (p : Program) (g : Graph) (source : ∥ IsSourceGraph p g ∥₁) where
  few_of : (cells : List Cell) → AllByRecursion IsSmallCell cells → AllByRecursion HasFewDecimals cells
  few_of [] small = tt
  few_of (c ∷ cells) small = (small.0.decimals, few_of cells small.1)

  pub cells_have_few_decimals : AllByRecursion HasFewDecimals g.cells
  cells_have_few_decimals = few_of g.cells (recursion_from_All IsSmallCell g.cells (graph_cells_small p g source))

  small_all : (own : Interval) (ts : List ℤ) → IsSmall own → AllByRecursion (LiesIn own) ts → AllByRecursion (λ z. unsigned_abs z < 10 ^ 18) ts
  small_all own [] small within = tt
  small_all own (t ∷ ts) small (h, within) =
      let low = small.low in let high = small.high in
      (omega (arith, ints, low, high, h.0, h.1), small_all own ts small within)

  lists_small : (owns_ : List Interval) (lists : List (List ℤ)) → AllByRecursion IsSmall owns_ → ListsLieIn owns_ lists →
      AllByRecursion (λ (ts : List ℤ). length ts ≤ 128) lists → AllByRecursion IsCellList lists
  lists_small [] [] small within short = tt
  lists_small [] (ts ∷ lists) small within short = absurd within
  lists_small (own ∷ owns_) [] small within short = tt
  lists_small (own ∷ owns_) (ts ∷ lists) small within short =
      (record { few = short.0; small = small_all own ts small.0 within.0 }, lists_small owns_ lists small.1 within.1 short.1)

  pub cell_lists_are_small : (lists : List (List ℤ)) → lists ≡ thresholds_of p → AllByRecursion IsCellList lists
  cell_lists_are_small lists same =
      subst (AllByRecursion IsCellList) (sym same)
      (lists_small (owns p) (thresholds_of p) (owns_small p g source) (thresholds_lie_in p g source)
      (lists_short (program_literals p) (cells_of p)))

  -- ---- what the calls give

  pub packs_given : (packs : List declared.Pack) (cell_lists : List (List ℤ)) (lists : List (Vec ℤ Global)) → cells_in packs ≡ packs_of p →
      length packs ≤ 32 → IsTrue (packs_fit (length g.cells) (cells_in packs)) → cell_lists ≡ thresholds_of p →
      lists_of lists ≡ map (thresholds_of_pack g.cells cell_lists) (cells_in packs) →
      AllByRecursion (λ list. length list.items ≤ 2048) lists → AllByRecursion AreThresholds (lists_of lists) → ArePacksGiven p packs lists
  packs_given packs cell_lists lists packs_are few fit cell_lists_are is short ends =
      let same : lists_of lists ≡ pack_lists p =
      is ∙ (λ i. map (thresholds_of_pack (cells_are p g source i) (cell_lists_are i)) (packs_are i)) in
      record {
        ready = record {
          few = let many = sym (length-map packs (λ pack. pack.cells.items)) ∙ ap length packs_are in omega (arith, few, many);
          fit = subst (λ (ps : List (List ℕ)). IsTrue (packs_fit (length (cells_of p)) ps)) packs_are
              (subst (λ (cs : List Cell). IsTrue (packs_fit (length cs) (cells_in packs))) (cells_are p g source) fit);
          ends = subst (AllByRecursion AreThresholds) same ends;
        };
        packs_are = packs_are;
        lists_are = same;
        short = short;
      }
