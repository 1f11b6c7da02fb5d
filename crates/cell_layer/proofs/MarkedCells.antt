-- What is forgotten by marks, and where the marks of an item stand.
use Rattle.std.proofs.Common.{◌≡◌, ◌<◌, ℕ, zero, suc, Bool, true, false, if◌then◌else◌, List, [], ◌∷◌, length, map, get_or, Option, Some, None, Vec, ℤ, refl, sym, ap, subst, ◌∙◌}
use Rattle.std.specs.Option.{option_map, option_map_or}
use Rattle.std.specs.declared.alloc.Global.{Global}
use Rattle.std.proofs.lemmas.List.{length-map, get_or-map}
use Rattle.cob_data.specs.declared.extent.Extent.{Extent}
use Rattle.cob_data.specs.declared.layout.Item.{Item}
use Rattle.cob_data.specs.declared.layout.Layout.{Layout}
use Rattle.cob_data.specs.Occurrences.{extent_of}
use Rattle.cob_program.specs.Act.{Program}
use Rattle.cob_runs.specs.declared.action.Cell.{Cell}
use Rattle.cob_runs.specs.Contents.{item_at}
use Rattle.cob_graph.specs.Graphs.{cells_of}
use Rattle.cob_graph.specs.declared.homes.Home.{Home}
use Rattle.cob_graph.specs.declared.homes.Home.TheVariants.{Item as of_item}
use Rattle.cob_graph.specs.Homes.{is_home, homes_of}
use Rattle.cob_graph.specs.Numbers.{item_of, items_of, number_in, number_of}
use Rattle.cob_graph.proofs.NumberLemmas.{number_within}
use Rattle.cob_graph.proofs.Parallel.{cells_same}
use Rattle.interval_domain.specs.Known.{Known}
use Rattle.interval_domain.specs.Rows as rows
use Rattle.cell_steps.specs.Cells.{forgotten, is_in_extent, is_beside}
use Rattle.cell_laws.proofs.CellLists.{home_is}
use Rattle.cell_layer.specs.ProgramRows.{IsRowOf}
use Rattle.cell_layer.specs.Forgetting.{has_bytes, forgotten_by, marks_of, cell_marks, lists_in, AreMarks}
use Rattle.cell_layer.proofs.Forgotten.{by_marks, forgotten_of, item_got, as_wide}
use Rattle.cell_layer.proofs.FirstCells.{homes_many}

-- ---- what is forgotten

by_items : (items : List Item) (e : Extent) (cells : List Cell) (cs : List Known) →
    forgotten_by (λ (c : Cell). has_bytes items e c.item) cells cs ≡ forgotten_by (has_bytes items e) (items_of cells) cs
by_items items e [] cs = refl
by_items items e (c ∷ cells) [] = refl
by_items items e (c ∷ cells) (k ∷ cs) = ap (λ ds. (if has_bytes items e c.item then None else k) ∷ ds) (by_items items e cells cs)

-- what lies beside an item has bytes of its extent
pub beside_item : (l : Layout) (place : ℕ) (o : Option Item) (i : Item) (hs : List Home) (cs : List Known) → o ≡ item_at l place → o ≡ Some i →
    forgotten (is_in_extent l (extent_of i)) hs cs ≡ forgotten (is_beside l place) hs cs
beside_item l place o i hs cs at is =
    sym (ap (λ (q : Option Item). forgotten (λ h. option_map_or (λ j. is_in_extent l (extent_of j) h) q false) hs cs) (sym at ∙ is))

pub marked_are_forgotten : (p : Program) (cells : List Cell) (row : List ℤ) (e : Extent) (marks : List Bool) → IsRowOf p cells row →
    marks ≡ marks_of p.layout.items e cells →
    forgotten_by (λ gone. gone) marks (rows.cells_of row) ≡ forgotten (is_in_extent p.layout e) (homes_of p) (rows.cells_of row)
marked_are_forgotten p cells row e marks r is =
    ap (λ ms. forgotten_by (λ gone. gone) ms (rows.cells_of row)) is
    ∙ (by_marks (λ (c : Cell). has_bytes p.layout.items e c.item) cells (rows.cells_of row)
    ∙ (by_items p.layout.items e cells (rows.cells_of row) ∙ forgotten_of p cells row e r))

pub marks_as_wide : (p : Program) (cells : List Cell) (row : List ℤ) (e : Extent) (marks : List Bool) → IsRowOf p cells row →
    marks ≡ marks_of p.layout.items e cells → length (rows.cells_of row) ≡ length marks
marks_as_wide p cells row e marks r is =
    as_wide p cells row r ∙ sym (ap length is ∙ length-map cells (λ (c : Cell). has_bytes p.layout.items e c.item))

-- ---- where the marks of an item stand

home_at : (home d : Home) (hs : List Home) (k : ℕ) → number_in home hs ≡ Some k → get_or hs k d ≡ home
home_at home d [] k e = absurd cc
home_at home d (h ∷ hs) k e = go (is_home h home) refl (number_in home hs) refl k e (λ j. home_at home d hs j)
  where
    go : (here : Bool) → is_home h home ≡ here → (o : Option ℕ) → number_in home hs ≡ o → (k : ℕ) → (if here then Some 0 else option_map suc o) ≡ Some k
        → ((j : ℕ) → number_in home hs ≡ Some j → get_or hs j d ≡ home) → get_or (h ∷ hs) k d ≡ home
    go true is o at zero f rest = home_is h home is
    go true is o at (suc k) f rest = absurd cc
    go false is None at k f rest = absurd cc
    go false is (Some j) at zero f rest = absurd cc
    go false is (Some j) at (suc k) f rest =
        let same : j ≡ k = cc in
        rest k (at ∙ ap Some same)

module _ (p : Program) (cells : List Cell) (same : cells ≡ cells_of p) (place k : ℕ) (at : number_of p (of_item place) ≡ Some k) where
  inside : k < length cells
  inside =
      let less : k < length (homes_of p) = number_within (of_item place) (homes_of p) k at in
      subst (λ n. k < n) (homes_many p ∙ ap length (sym same)) less

  items_are : items_of cells ≡ map item_of (homes_of p)
  items_are = ap items_of same ∙ cells_same p

  its_item : (d : Cell) → (get_or cells k d).item ≡ Some place
  its_item d =
      item_got cells k d inside
      ∙ (ap (λ os. get_or os k None) items_are
      ∙ (get_or-map item_of (homes_of p) k (of_item place) None (number_within (of_item place) (homes_of p) k at)
      ∙ ap item_of (home_at (of_item place) (of_item place) (homes_of p) k at)))

  module _ (marks : List (Vec Bool Global)) (are : AreMarks p cells marks) where
    pub marks_within : k < length marks
    marks_within =
        subst (λ n. k < n) (sym (sym (length-map marks (λ (row : Vec Bool Global). row.items)) ∙ (ap length are ∙ length-map cells (λ (c : Cell). cell_marks p.layout.items cells c.item)))) inside

    pub item_marks_are : (i : Item) (found : List Bool) → found ≡ get_or (lists_in marks) k [] → item_at p.layout place ≡ Some i → found ≡ marks_of p.layout.items (extent_of i) cells
    item_marks_are i found is there =
        let d : Cell = record { item = None; digits = 0; scale = 0; signed = false; times = 1 } in
        is
        ∙ (ap (λ (rows_ : List (List Bool)). get_or rows_ k []) are
        ∙ (get_or-map (λ (c : Cell). cell_marks p.layout.items cells c.item) cells k d [] inside
        ∙ (ap (cell_marks p.layout.items cells) (its_item d)
        ∙ ap (λ (o : Option Item). option_map_or (λ (j : Item). marks_of p.layout.items (extent_of j) cells) o []) there)))
