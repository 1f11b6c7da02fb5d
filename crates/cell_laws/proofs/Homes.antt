-- Homes of cells are those of items that have one, and of TIMES.
use Rattle.std.proofs.Common.{◌≡◌, ℕ, ◌+◌, suc, nat_le, Bool, true, false, if◌then◌else◌, List, [], ◌∷◌, ◌++◌, map, slice_get, Option, Some, None, refl, ap, ◌∙◌, sym, arith}
use Rattle.std.specs.List.{AllZip, AllByRecursion}
use Rattle.std.specs.Option.{option_map_or}
use Rattle.cob_tree.specs.declared.form.Form.{Form}
use Rattle.cob_tree.specs.declared.form.Form.TheVariants.{Group, Text, Number, Edited}
use Rattle.cob_data.specs.declared.layout.Item.{Item}
use Rattle.cob_data.specs.declared.layout.Layout.{Layout}
use Rattle.cob_program.specs.Act.{once, times, until, varying, Stmt, MkStmt, Act, move, arith as arith_, if_, evaluate, perform, go, nothing, stop, open_files, close_files, read, write, show, Program}
use Rattle.cob_program.specs.Statements.{program_statements}
use Rattle.cob_runs.specs.Contents.{item_at, form_at}
use Rattle.cob_runs.specs.Effects.{act_at}
use Rattle.cob_graph.specs.declared.homes.Home.{Home}
use Rattle.cob_graph.specs.declared.homes.Home.TheVariants.{Item as of_item}
use Rattle.cob_graph.specs.Homes.{if_named, home_of, item_homes, act_homes, count_homes, homes_of, cell_of_home}
use Rattle.cob_graph.specs.WellFormed.{IsWellFormed}
use Rattle.cell_steps.specs.OwnRanges.{own_range, home_range}
use Rattle.cell_laws.specs.Cells.{IsHomeOf, IsCellOf, CellsAreOfHomes, HomesHaveOwnRanges}
use Rattle.data_laws.specs.Statements.{IsFound}
use Rattle.data_laws.proofs.Listed.{listed_is_found}

module _ (p : Program) where
  abbrev AreHomes : List Home → Type 0
  AreHomes hs = AllByRecursion (IsHomeOf p) hs

  both_are : (hs ks : List Home) → AreHomes hs → AreHomes ks → AreHomes (hs ++ ks)
  both_are [] ks first second = second
  both_are (h ∷ hs) ks first second = (first.0, both_are hs ks first.1 second)

  -- ---- items

  text_home : (place n : ℕ) (x : Bool) → nat_le n 18 ≡ x → form_at p.layout place ≡ Text n → AreHomes (if x then of_item place ∷ [] else [])
  text_home place n false short e = tt
  text_home place n true short e = (ap (home_of place) e ∙ ap (λ b. if b then of_item place ∷ [] else []) short, tt)

  form_home : (place : ℕ) (f : Form) → form_at p.layout place ≡ f → AreHomes (home_of place f)
  form_home place Group e = tt
  form_home place (Text n) e = text_home place n (nat_le n 18) refl e
  form_home place (Number digits scale signed kept) e = (ap (home_of place) e, tt)
  form_home place (Edited picture digits scale) e = tt

  named_home : (place : ℕ) (name : Option (List ℕ)) (f : Form) → form_at p.layout place ≡ f → AreHomes (if_named name (home_of place f))
  named_home place None f e = tt
  named_home place (Some n) f e = form_home place f e

  -- these items are the layout's from the place on
  abbrev StandFrom : ℕ → List Item → Type 0
  StandFrom place items = (k : ℕ) → slice_get p.layout.items (place + k) ≡ slice_get items k

  form_here : (place : ℕ) (i : Item) (items : List Item) → StandFrom place (i ∷ items) → form_at p.layout place ≡ i.form
  form_here place i items stand =
      let same : place + 0 ≡ place = omega arith in
      let at : item_at p.layout place ≡ Some i = ap (slice_get p.layout.items) (sym same) ∙ stand 0 in
      ap (λ o. option_map_or (λ (j : Item). j.form) o Group) at

  stand_behind : (place : ℕ) (i : Item) (items : List Item) → StandFrom place (i ∷ items) → StandFrom (suc place) items
  stand_behind place i items stand k =
      let same : suc place + k ≡ place + suc k = omega arith in ap (slice_get p.layout.items) same ∙ stand (suc k)

  items_are : (place : ℕ) (items : List Item) → StandFrom place items → AreHomes (item_homes place items)
  items_are place [] stand = tt
  items_are place (i ∷ items) stand =
      both_are (if_named i.name (home_of place i.form)) (item_homes (suc place) items)
      (named_home place i.name i.form (form_here place i items stand)) (items_are (suc place) items (stand_behind place i items stand))

  -- ---- counters

  turns_home : (n : ℕ) (a : Act) → act_at p n ≡ Some a → AreHomes (act_homes n a)
  turns_home n (perform body (times x)) e = (record { body = body; count = x; act = e }, tt)
  turns_home n (perform body once) e = tt
  turns_home n (perform body (until after t)) e = tt
  turns_home n (perform body (varying after item start by t)) e = tt
  turns_home n (arith_ s targets remainder size fine) e = tt
  turns_home n (if_ t held other) e = tt
  turns_home n (evaluate ws other) e = tt
  turns_home n (read f into end fine) e = tt
  turns_home n (open_files os) e = tt
  turns_home n (close_files fs) e = tt
  turns_home n (write r from) e = tt
  turns_home n (move x places) e = tt
  turns_home n (go place) e = tt
  turns_home n nothing e = tt
  turns_home n stop e = tt
  turns_home n (show xs) e = tt

  counts_are : (ss : List Stmt) → AllByRecursion (IsFound p) ss → AreHomes (count_homes ss)
  counts_are [] found = tt
  counts_are (MkStmt n line a ∷ ss) found = both_are (act_homes n a) (count_homes ss) (turns_home n a found.0) (counts_are ss found.1)

  -- ---- cells

  cells_of_them : (hs : List Home) → AreHomes hs → AllZip (IsCellOf p) hs (map (cell_of_home p.layout) hs)
  cells_of_them [] are = tt
  cells_of_them (h ∷ hs) are = ((refl, are.0), cells_of_them hs are.1)

ranges_of : (l : Layout) (hs : List Home) → map (home_range l) hs ≡ map own_range (map (cell_of_home l) hs)
ranges_of l [] = refl
ranges_of l (h ∷ hs) = ap (λ rs. own_range (cell_of_home l h) ∷ rs) (ranges_of l hs)

pub homes_are : (p : Program) → IsWellFormed p → AllByRecursion (IsHomeOf p) (homes_of p)
homes_are p whole =
    both_are p (item_homes 0 p.layout.items) (count_homes (program_statements p))
    (items_are p 0 p.layout.items (λ k. let same : 0 + k ≡ k = omega arith in ap (slice_get p.layout.items) same))
    (counts_are p (program_statements p) (listed_is_found p whole))

pub cells_are_of_homes : CellsAreOfHomes
cells_are_of_homes p whole = cells_of_them p (homes_of p) (homes_are p whole)

pub homes_have_own_ranges : HomesHaveOwnRanges
homes_have_own_ranges p = ranges_of p.layout (homes_of p)
