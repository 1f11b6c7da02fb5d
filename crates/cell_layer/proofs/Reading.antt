-- What is read of an item without a cell changes nothing.
use Rattle.std.proofs.Common.{◌≡◌, ℕ, Bool, true, false, if◌then◌else◌, List, [], ◌∷◌, Some, ◌≤ℤ◌, refl, sym, ap, subst, ◌∙◌}
use Rattle.std.specs.List.{list_all}
use Rattle.cob_data.specs.declared.layout.Layout.{Layout}
use Rattle.cob_program.specs.Bounds.{is_small}
use Rattle.cob_program.specs.Act.{Program}
use Rattle.cob_program.proofs.Steps.{both}
use Rattle.cob_calc.specs.Contents.{bound_at}
use Rattle.sum_ranges.specs.declared.ranged.Ranged.{Ranged}
use Rattle.interval_domain.specs.Known.{Known, IsOrdered}
use Rattle.interval_domain.specs.Elements.{CellsFit}
use Rattle.cob_graph.specs.declared.homes.Home.{Home}
use Rattle.cob_graph.specs.declared.homes.Home.TheVariants.{Item as of_item}
use Rattle.cob_graph.specs.Homes.{is_home, homes_of}
use Rattle.cell_steps.specs.OwnRanges.{owns}
use Rattle.cell_steps.specs.Cells.{units_of, with_known}
use Rattle.cell_steps.specs.Stores.{range_at}
use Rattle.cell_steps.specs.Steps.{read_cells}
use Rattle.cell_laws.proofs.CellLists.{home_is}
use Rattle.cell_laws.proofs.ItemRanges.{range_ordered}
use Rattle.cell_layer.specs.SmallCells.{is_small_home, has_small_cells}

no_cell : (l : Layout) (place : ℕ) (new : Known) (hs : List Home) (cs : List Known) → list_all (is_small_home l) hs ≡ true →
    is_small (bound_at l place) ≡ false → cs ≡ with_known (of_item place) new hs cs
no_cell l place new [] cs all great = refl
no_cell l place new (h ∷ hs) [] all great = refl
no_cell l place new (h ∷ hs) (c ∷ cs) all great =
    let k = both (is_small_home l h) (list_all (is_small_home l) hs) all in
    go (is_home h (of_item place)) refl k.0 (ap (λ ds. c ∷ ds) (no_cell l place new hs cs k.1 great))
  where
    go : (here : Bool) → is_home h (of_item place) ≡ here → is_small_home l h ≡ true → c ∷ cs ≡ c ∷ with_known (of_item place) new hs cs →
        c ∷ cs ≡ (if here then new ∷ cs else c ∷ with_known (of_item place) new hs cs)
    go true e small rest =
        let other : true ≡ false = sym small ∙ (ap (is_small_home l) (home_is h (of_item place) e) ∙ great) in absurd cc
    go false e small rest = rest

pub great_is_not_read : (p : Program) (place : ℕ) (cells : List Known) → has_small_cells p ≡ true →
    is_small (bound_at p.layout place) ≡ false → cells ≡ read_cells p (of_item place) cells
great_is_not_read p place cells small great =
    no_cell p.layout place (Some (units_of p.layout (homes_of p) cells (of_item place))) (homes_of p) cells small great

pub item_is_ordered : (p : Program) (cells : List Known) (place : ℕ) (r : Ranged) → CellsFit (owns p) cells → r ≡ range_at p cells place → IsOrdered (Some r.units)
item_is_ordered p cells place r fits is =
    subst (λ (q : Ranged). q.units.low ≤ℤ q.units.high) (sym is) (range_ordered p.layout (homes_of p) cells fits place)
