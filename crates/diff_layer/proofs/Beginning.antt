-- The entry: the row that bounds nothing, lowered to what is known of cells.
use Rattle.std.proofs.Common.{◌≡◌, ◌≤◌, ℕ, List, [], ◌∷◌, map, length, ℤ, Some, None, sym, ap, subst, ◌∙◌}
use Rattle.std.specs.List.{AllByRecursion}
use Rattle.std.proofs.lemmas.Simd.{map-map}
use Rattle.std.proofs.lemmas.List.{length-map}
use Rattle.std.proofs.lemmas.Option.{same_Some}
use Rattle.cob_program.specs.Act.{Program}
use Rattle.cob_runs.specs.declared.action.Cell.{Cell}
use Rattle.cob_graph.specs.Graphs.{cells_of as program_cells}
use Rattle.interval_domain.specs.Known.{Known}
use Rattle.interval_domain.specs.Elements.{CellsFit}
use Rattle.interval_domain.specs.Rows as rows
use Rattle.interval_domain.specs.Rows.{cells_of}
use Rattle.interval_domain.proofs.Rows.{element_back}
use Rattle.cob_graph.specs.Homes.{homes_of}
use Rattle.cell_steps.specs.OwnRanges.{owns}
use Rattle.cell_laws.specs.Entry.{entry_known, entry_cells}
use Rattle.cell_layer.specs.ProgramRows.{IsRowOf}
use Rattle.diff_steps.specs.Packs.{Pack, size_of}
use Rattle.diff_steps.specs.Steps.{all_closed}
use Rattle.diff_steps.specs.Edges.{or_bottoms, no_bounds, entry_packs}
use Rattle.diff_bounds.specs.PackRows.{width_of, row_of, matrices_beside}
use Rattle.pack_laws.specs.Agreeing.{AreMatrices}
use Rattle.diff_layer.specs.declared.pack.plans.PackPlan.{PackPlan}
use Rattle.diff_layer.specs.Plans.{plain_plan, plain_plans, ArePlansOf, matrices_for, IsRowFor}
use Rattle.pack_laws.specs.Layer.{sizes_of}
use Rattle.pack_laws.proofs.Pieces.{matrices_back}
use Rattle.pack_laws.proofs.Entry.{unbounded_packs, unbounded_are}
use Rattle.diff_layer.proofs.Rows.{row_back, least_is, width_is}
use Rattle.diff_layer.proofs.Sizes.{many_in}

pub plans_are_few : (p : Program) (plans : List PackPlan) → ArePlansOf p plans → AllByRecursion (λ pack. size_of pack ≤ 8) (plain_plans plans)
plans_are_few p [] are = tt
plans_are_few p (plan ∷ plans) are = (are.0.few, plans_are_few p plans are.1)

module _ (p : Program) (plans : List PackPlan) (are : ArePlansOf p plans) (sizes : List ℕ) (same : sizes ≡ sizes_of (plain_plans plans)) where
  abbrev pub packs : List Pack
  packs = plain_plans plans

  free_is : row_of (map no_bounds sizes) ≡ row_of (unbounded_packs packs)
  free_is = ap (λ ns. row_of (map no_bounds ns)) same ∙ ap row_of (map-map no_bounds size_of packs)

  module _ (row : List ℤ) (is : row ≡ row_of (map no_bounds sizes)) where
    pub matrices_are : matrices_for plans row ≡ unbounded_packs packs
    matrices_are =
        ap (matrices_for plans) (is ∙ free_is)
        ∙ matrices_back packs (unbounded_packs packs) (unbounded_are packs (plans_are_few p plans are))

    pub is_row : length row ≡ width_of sizes → IsRowFor plans row
    is_row wide = record {
      width = wide ∙ ap width_of same;
      matrices = subst (AreMatrices packs) (sym matrices_are) (unbounded_are packs (plans_are_few p plans are));
    }

    module _ (known : List Known) where
      pub closed_is : (out : List ℤ) → length out ≡ width_of sizes → all_closed p known packs (matrices_for plans row) ≡ Some (matrices_for plans out) →
          out ≡ row_of (entry_packs p packs known)
      closed_is out wide closes =
          sym (ap (λ ms. row_of (or_bottoms packs (all_closed p known packs ms))) (sym matrices_are)
          ∙ ap (λ o. row_of (or_bottoms packs o)) closes
          ∙ row_back (sizes_of packs) out (wide ∙ ap width_of same))

      pub least_entry : (lists : List (List ℤ)) → length lists ≡ length plans → all_closed p known packs (matrices_for plans row) ≡ None →
          (matrices_beside sizes lists).least ≡ row_of (entry_packs p packs known)
      least_entry lists listed closes =
          ap (λ ns. (matrices_beside ns lists).least) same
          ∙ least_is packs lists (listed ∙ sym (length-map plans plain_plan))
          ∙ sym (ap (λ ms. row_of (or_bottoms packs (all_closed p known packs ms))) (sym matrices_are)
          ∙ ap (λ o. row_of (or_bottoms packs o)) closes)

  pub wide_is : (lists : List (List ℤ)) → length lists ≡ length plans → width_of sizes ≡ (matrices_beside sizes lists).width
  wide_is lists listed = sym (width_is sizes lists (listed ∙ sym (length-map plans plain_plan) ∙ sym (many_in sizes packs same)))

-- ---- what is known of cells

module _ (p : Program) (row : List ℤ) (is : row ≡ rows.row_of (entry_cells p)) (fits : CellsFit (owns p) (entry_cells p)) where
  pub known_is : cells_of row ≡ entry_cells p
  known_is = ap cells_of is ∙ same_Some (cells_of (rows.row_of (entry_cells p))) (entry_cells p) (element_back (owns p) (Some (entry_cells p)) fits)

  pub is_row_of : (cells : List Cell) → cells ≡ program_cells p → IsRowOf p cells row
  is_row_of cells same = record {
    cells_are = same;
    reached = is ∙ ap rows.row_of (sym known_is);
    count = ap length known_is ∙ length-map (homes_of p) (entry_known p.layout);
  }

  pub its_fit : CellsFit (owns p) (cells_of row)
  its_fit = subst (CellsFit (owns p)) (sym known_is) fits
