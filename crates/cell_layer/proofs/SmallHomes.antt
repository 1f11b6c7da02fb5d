-- Items of the profile that have cells are small.
use Rattle.std.proofs.Common.{◌≡◌, ◌≤◌, ℕ, suc, ◌+◌, nat_le, Bool, true, false, if◌then◌else◌, List, [], ◌∷◌, slice_get, Option, Some, None, refl, sym, ap, ◌∙◌, arith}
use Rattle.std.specs.List.{list_all, AllByRecursion}
use Rattle.std.specs.Option.{option_map_or}
use Rattle.std.proofs.lemmas.Bool.{and_from, le-leb, leb-true}
use Rattle.std.proofs.lemmas.List.Elements.{recursion_from_All}
use Rattle.std.proofs.lemmas.List.Folds.{list_all-append}
use Rattle.cob_tree.specs.declared.form.Form.{Form}
use Rattle.cob_tree.specs.declared.form.Form.TheVariants.{Group, Text, Number, Edited}
use Rattle.cob_data.specs.declared.layout.Item.{Item}
use Rattle.cob_data.specs.declared.layout.Layout.{Layout}
use Rattle.cob_program.specs.Bounds.{of_digits, form_bound, is_small}
use Rattle.cob_program.specs.Act.{once, times, until, varying, Stmt, MkStmt, Act, perform, Program}
use Rattle.cob_program.specs.Statements.{program_statements}
use Rattle.cob_runs.specs.Contents.{item_at, form_at}
use Rattle.cob_store.specs.WellFormed.{IsWellFormedForm, IsWellFormedItem, HasWellFormedItems}
use Rattle.cob_graph.specs.declared.homes.Home.TheVariants.{Item as of_item}
use Rattle.cob_graph.specs.Homes.{if_named, home_of, item_homes, act_homes, count_homes}
use Rattle.cell_layer.proofs.Digits.{small_digits}
use Rattle.cell_layer.specs.SmallCells.{is_small_home, has_small_cells}

short_is_small : (digits scale : ℕ) → digits ≤ 18 → scale ≤ 18 → is_small (of_digits digits scale) ≡ true
short_is_small digits scale few fewer =
    small_digits digits scale
    ∙ and_from (nat_le digits 37) (nat_le scale 37) (le-leb digits 37 (omega (arith, few))) (le-leb scale 37 (omega (arith, fewer)))

module _ (l : Layout) where
  -- ---- items

  small_here : (place : ℕ) (f : Form) → form_at l place ≡ f → is_small (form_bound f) ≡ true → list_all (is_small_home l) (of_item place ∷ []) ≡ true
  small_here place f e small =
      and_from (is_small_home l (of_item place)) true (ap (λ (g : Form). is_small (form_bound g)) e ∙ small) refl

  text_small : (place n : ℕ) (short : Bool) → nat_le n 18 ≡ short → form_at l place ≡ Text n →
      list_all (is_small_home l) (if short then of_item place ∷ [] else []) ≡ true
  text_small place n false told e = refl
  text_small place n true told e = small_here place (Text n) e (short_is_small n 0 (leb-true n 18 told) (omega arith))

  form_small : (place : ℕ) (f : Form) (bytes : ℕ) → form_at l place ≡ f → IsWellFormedForm f bytes → list_all (is_small_home l) (home_of place f) ≡ true
  form_small place Group bytes e sound = refl
  form_small place (Text n) bytes e sound = text_small place n (nat_le n 18) refl e
  form_small place (Number digits scale signed kept) bytes e sound =
      let few = sound.number.at_most_18 in
      small_here place (Number digits scale signed kept) e (short_is_small digits scale few (omega (arith, few, sound.decimals)))
  form_small place (Edited picture digits scale) bytes e sound = refl

  named_small : (place : ℕ) (name : Option (List ℕ)) (f : Form) (bytes : ℕ) → form_at l place ≡ f → IsWellFormedForm f bytes →
      list_all (is_small_home l) (if_named name (home_of place f)) ≡ true
  named_small place None f bytes e sound = refl
  named_small place (Some n) f bytes e sound = form_small place f bytes e sound

  -- these items are the layout's from the place on
  abbrev StandFrom : ℕ → List Item → Type 0
  StandFrom place items = (k : ℕ) → slice_get l.items (place + k) ≡ slice_get items k

  form_here : (place : ℕ) (i : Item) (items : List Item) → StandFrom place (i ∷ items) → form_at l place ≡ i.form
  form_here place i items stand =
      let same : place + 0 ≡ place = omega arith in
      let at : item_at l place ≡ Some i = ap (slice_get l.items) (sym same) ∙ stand 0 in
      ap (λ o. option_map_or (λ (j : Item). j.form) o Group) at

  stand_behind : (place : ℕ) (i : Item) (items : List Item) → StandFrom place (i ∷ items) → StandFrom (suc place) items
  stand_behind place i items stand k =
      let same : suc place + k ≡ place + suc k = omega arith in ap (slice_get l.items) same ∙ stand (suc k)

  items_small : (place : ℕ) (items : List Item) → StandFrom place items → AllByRecursion (IsWellFormedItem l) items →
      list_all (is_small_home l) (item_homes place items) ≡ true
  items_small place [] stand all = refl
  items_small place (i ∷ items) stand all =
      let here = named_small place i.name i.form i.length (form_here place i items stand) all.0.form in
      let rest = items_small (suc place) items (stand_behind place i items stand) all.1 in
      list_all-append (is_small_home l) (if_named i.name (home_of place i.form)) (item_homes (suc place) items)
      ∙ and_from (list_all (is_small_home l) (if_named i.name (home_of place i.form))) (list_all (is_small_home l) (item_homes (suc place) items)) here rest

  -- ---- counters

  act_small : (n : ℕ) (a : Act) → list_all (is_small_home l) (act_homes n a) ≡ true
  act_small n (perform body (times x)) = refl
  act_small n (perform body once) = refl
  act_small n (perform body (until after t)) = refl
  act_small n (perform body (varying after item start by t)) = refl
  act_small n _ = refl

  counts_small : (ss : List Stmt) → list_all (is_small_home l) (count_homes ss) ≡ true
  counts_small [] = refl
  counts_small (MkStmt n line a ∷ ss) =
      list_all-append (is_small_home l) (act_homes n a) (count_homes ss)
      ∙ and_from (list_all (is_small_home l) (act_homes n a)) (list_all (is_small_home l) (count_homes ss)) (act_small n a) (counts_small ss)

-- the premise of reads and tests, for every program of the profile
pub cells_are_small : (p : Program) → HasWellFormedItems p.layout → has_small_cells p ≡ true
cells_are_small p sound =
    let l = p.layout in
    let at : (k : ℕ) → slice_get l.items (0 + k) ≡ slice_get l.items k = λ k. let same : 0 + k ≡ k = omega arith in ap (slice_get l.items) same in
    let items = items_small l 0 l.items at (recursion_from_All (IsWellFormedItem l) l.items sound.items) in
    list_all-append (is_small_home l) (item_homes 0 l.items) (count_homes (program_statements p))
    ∙ and_from (list_all (is_small_home l) (item_homes 0 l.items)) (list_all (is_small_home l) (count_homes (program_statements p))) items
    (counts_small l (program_statements p))
