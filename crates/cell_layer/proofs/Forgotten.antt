-- What is forgotten, cell after cell, and by homes.
use Rattle.std.proofs.Common.{◌≡◌, ◌≤◌, ◌<◌, ℕ, zero, suc, ◌+◌, Bool, true, false, if◌then◌else◌, List, [], ◌∷◌, ◌++◌, length, map, get_or, Option, Some, None, ℤ, refl, sym, ap, subst, ◌∙◌, append_assoc, arith}
use Rattle.std.specs.Prelude.{nat_le, IfSome}
use Rattle.std.specs.List.{All, AllByRecursion}
use Rattle.std.specs.Option.{option_map_or}
use Rattle.std.proofs.lemmas.List.{length-map, map-append}
use Rattle.std.proofs.lemmas.List.Elements.{All-from_recursion}
use Rattle.cob_tree.specs.declared.form.Form.{Form}
use Rattle.cob_tree.specs.declared.form.Form.TheVariants as form
use Rattle.cob_data.specs.declared.extent.Extent.{Extent}
use Rattle.cob_data.specs.declared.layout.Item.{Item}
use Rattle.cob_data.specs.declared.layout.Layout.{Layout}
use Rattle.cob_data.specs.Occurrences.{extent_of}
use Rattle.cob_program.specs.Act.{Turns, times, Stmt, MkStmt, Act, perform, Program}
use Rattle.cob_program.specs.Statements.{program_statements}
use Rattle.cob_runs.specs.declared.action.Cell.{Cell}
use Rattle.cob_runs.specs.Contents.{item_at}
use Rattle.cob_graph.specs.Graphs.{cells_of}
use Rattle.cob_graph.specs.declared.homes.Home.{Home}
use Rattle.cob_graph.specs.declared.homes.Home.TheVariants.{Item as of_item, Count as of_count}
use Rattle.cob_graph.specs.Homes.{home_of, if_named, item_homes, turns_homes, act_homes, count_homes, homes_of}
use Rattle.interval_domain.specs.Known.{Known}
use Rattle.interval_domain.specs.Rows as rows
use Rattle.interval_domain.specs.Rows.{IsReached}
use Rattle.cob_graph.specs.Numbers.{item_of, items_of}
use Rattle.cob_graph.proofs.Parallel.{cells_same}
use Rattle.cell_steps.specs.Cells.{forgotten, is_in_extent, is_beside}
use Rattle.cell_layer.specs.ProgramRows.{IsRowOf}
use Rattle.cell_layer.specs.Forgetting.{has_bytes, forgotten_at, forgotten_by}

module _ {A : Type 0} (is_gone : A → Bool) where
  -- so many cells are gone through
  abbrev pub through : ℕ → List A → List Known → List Known
  through zero os cs = cs
  through (suc k) (o ∷ os) (c ∷ cs) = (if is_gone o then None else c) ∷ through k os cs
  through (suc k) _ cs = cs

  pub through_length : (k : ℕ) (os : List A) (cs : List Known) → length (through k os cs) ≡ length cs
  through_length zero os cs = refl
  through_length (suc k) [] cs = refl
  through_length (suc k) (o ∷ os) [] = refl
  through_length (suc k) (o ∷ os) (c ∷ cs) = ap suc (through_length k os cs)

  pub through_all : (k : ℕ) (os : List A) (cs : List Known) → k ≡ length os → through k os cs ≡ forgotten_by is_gone os cs
  through_all zero [] cs e = refl
  through_all zero (o ∷ os) cs e = absurd (omega (arith, e))
  through_all (suc k) [] cs e = absurd (omega (arith, e))
  through_all (suc k) (o ∷ os) [] e = refl
  through_all (suc k) (o ∷ os) (c ∷ cs) e = ap (λ ds. (if is_gone o then None else c) ∷ ds) (through_all k os cs (omega (arith, e)))

  pub through_next : (k : ℕ) (os : List A) (cs : List Known) (d : A) (gone : Bool) → k < length os → k < length cs →
      gone ≡ is_gone (get_or os k d) → forgotten_at (through k os cs) k gone ≡ through (suc k) os cs
  through_next k [] cs d gone h i e = absurd (omega arith)
  through_next k (p ∷ os) [] d gone h i e = absurd (omega arith)
  through_next zero (p ∷ os) (c ∷ cs) d true h i e = rw (← e) refl
  through_next zero (p ∷ os) (c ∷ cs) d false h i e = rw (← e) refl
  through_next (suc k) (p ∷ os) (c ∷ cs) d true h i e =
      ap (λ ds. (if is_gone p then None else c) ∷ ds) (through_next k os cs d true (omega arith) (omega arith) e)
  through_next (suc k) (p ∷ os) (c ∷ cs) d false h i e =
      ap (λ ds. (if is_gone p then None else c) ∷ ds) (through_next k os cs d false (omega arith) (omega arith) e)

  -- by marks
  pub by_marks : (os : List A) (cs : List Known) → forgotten_by (λ gone. gone) (map is_gone os) cs ≡ forgotten_by is_gone os cs
  by_marks [] cs = refl
  by_marks (o ∷ os) [] = refl
  by_marks (o ∷ os) (c ∷ cs) = ap (λ ds. (if is_gone o then None else c) ∷ ds) (by_marks os cs)

-- ---- by homes

gone_same : (l : Layout) (e : Extent) (h : Home) → has_bytes l.items e (item_of h) ≡ is_in_extent l e h
gone_same l e (of_item place) = refl
gone_same l e (of_count statement) = refl

by_homes : (l : Layout) (e : Extent) (hs : List Home) (cs : List Known) →
    forgotten_by (has_bytes l.items e) (map item_of hs) cs ≡ forgotten (is_in_extent l e) hs cs
by_homes l e [] cs = refl
by_homes l e (h ∷ hs) [] = refl
by_homes l e (h ∷ hs) (c ∷ cs) =
    ap (λ (b : Bool). (if b then None else c) ∷ forgotten_by (has_bytes l.items e) (map item_of hs) cs) (gone_same l e h)
    ∙ ap (λ ds. (if is_in_extent l e h then None else c) ∷ ds) (by_homes l e hs cs)

pub forgotten_of : (p : Program) (cells : List Cell) (row : List ℤ) (e : Extent) → IsRowOf p cells row →
    forgotten_by (has_bytes p.layout.items e) (items_of cells) (rows.cells_of row)
    ≡ forgotten (is_in_extent p.layout e) (homes_of p) (rows.cells_of row)
forgotten_of p cells row e r =
    ap (λ os. forgotten_by (has_bytes p.layout.items e) os (rows.cells_of row)) (ap items_of r.cells_are ∙ cells_same p)
    ∙ by_homes p.layout e (homes_of p) (rows.cells_of row)

forgotten_length : (is_gone : Home → Bool) (hs : List Home) (cs : List Known) → length (forgotten is_gone hs cs) ≡ length cs
forgotten_length is_gone [] cs = refl
forgotten_length is_gone (h ∷ hs) [] = refl
forgotten_length is_gone (h ∷ hs) (c ∷ cs) = ap suc (forgotten_length is_gone hs cs)

pub forgotten_row : (p : Program) (cells : List Cell) (row later : List ℤ) (is_gone : Home → Bool) → IsRowOf p cells row →
    rows.cells_of later ≡ forgotten is_gone (homes_of p) (rows.cells_of row) → IsReached later → IsRowOf p cells later
forgotten_row p cells row later is_gone r e reached = record {
  cells_are = r.cells_are;
  reached = reached;
  count = ap length e ∙ (forgotten_length is_gone (homes_of p) (rows.cells_of row) ∙ r.count);
}

-- the item of the cell with a number
pub item_got : (cells : List Cell) (k : ℕ) (d : Cell) → k < length cells → (get_or cells k d).item ≡ get_or (items_of cells) k None
item_got [] k d h = absurd (omega arith)
item_got (c ∷ cells) zero d h = refl
item_got (c ∷ cells) (suc k) d h = item_got cells k d (omega arith)

pub items_length : (cells : List Cell) → length (items_of cells) ≡ length cells
items_length cells = length-map cells (λ (c : Cell). c.item)

-- a row of a program has a cell for each of the program's
pub as_wide : (p : Program) (cells : List Cell) (row : List ℤ) → IsRowOf p cells row → length (rows.cells_of row) ≡ length cells
as_wide p cells row r =
    r.count ∙ (sym (length-map (homes_of p) item_of) ∙ (sym (ap length (ap items_of r.cells_are ∙ cells_same p)) ∙ items_length cells))

nothing_gone : (is_gone : Home → Bool) (hs : List Home) (cs : List Known) → ((h : Home) → is_gone h ≡ false) →
    cs ≡ forgotten is_gone hs cs
nothing_gone is_gone [] cs none = refl
nothing_gone is_gone (h ∷ hs) [] none = refl
nothing_gone is_gone (h ∷ hs) (c ∷ cs) none =
    ap (λ ds. c ∷ ds) (nothing_gone is_gone hs cs none)
    ∙ ap (λ (b : Bool). (if b then None else c) ∷ forgotten is_gone hs cs) (sym (none h))

-- nothing has bytes of an item that isn't there
pub nothing_beside : (l : Layout) (place : ℕ) (hs : List Home) (cs : List Known) → item_at l place ≡ None →
    cs ≡ forgotten (is_beside l place) hs cs
nothing_beside l place hs cs none = nothing_gone (is_beside l place) hs cs
    (λ h. ap (λ (o : Option Item). option_map_or (λ i. is_in_extent l (extent_of i) h) o false) none)

-- ---- the items of a program's cells stand in its list

module _ (most : ℕ) where
  abbrev IsBelow : Option ℕ → Type 0
  IsBelow o = IfSome o (λ place. place < most)

  abbrev AreBelow : List (Option ℕ) → Type 0
  AreBelow os = AllByRecursion IsBelow os

  home_below : (place : ℕ) (f : Form) (os : List (Option ℕ)) → place < most → AreBelow os → AreBelow (map item_of (home_of place f) ++ os)
  home_below place (form.Number digits scale signed kept) os less all = (less, all)
  home_below place (form.Text n) os less all = go (nat_le n 18)
    where
      go : (short : Bool) → AreBelow (map item_of (if short then of_item place ∷ [] else []) ++ os)
      go true = (less, all)
      go false = all
  home_below place (form.Edited picture digits scale) os less all = all
  home_below place form.Group os less all = all

  named_below : {A : Type 0} (o : Option A) (place : ℕ) (f : Form) (os : List (Option ℕ)) → place < most → AreBelow os →
      AreBelow (map item_of (if_named o (home_of place f)) ++ os)
  named_below None place f os less all = all
  named_below (Some n) place f os less all = home_below place f os less all

  items_below : (n : ℕ) (is_ : List Item) (os : List (Option ℕ)) → n + length is_ ≤ most → AreBelow os →
      AreBelow (map item_of (item_homes n is_) ++ os)
  items_below n [] os fit all = all
  items_below n (i ∷ is_) os fit all =
      let here = if_named i.name (home_of n i.form) in
      let rest = item_homes (suc n) is_ in
      let cut : map item_of (here ++ rest) ++ os ≡ map item_of here ++ (map item_of rest ++ os) =
      ap (λ xs. xs ++ os) (map-append item_of here rest) ∙ append_assoc (map item_of here) (map item_of rest) os in
      subst AreBelow (sym cut)
      (named_below i.name n i.form (map item_of rest ++ os) (omega (arith, fit)) (items_below (suc n) is_ os (omega (arith, fit)) all))

  turns_below : (n : ℕ) (t : Turns) (os : List (Option ℕ)) → AreBelow os → AreBelow (map item_of (turns_homes n t) ++ os)
  turns_below n (times x) os all = (tt, all)
  turns_below n _ os all = all

  act_below : (n : ℕ) (a : Act) (os : List (Option ℕ)) → AreBelow os → AreBelow (map item_of (act_homes n a) ++ os)
  act_below n (perform body turns) os all = turns_below n turns os all
  act_below n _ os all = all

  counts_below : (ss : List Stmt) → AreBelow (map item_of (count_homes ss))
  counts_below [] = tt
  counts_below (MkStmt number line a ∷ ss) =
      subst AreBelow (sym (map-append item_of (act_homes number a) (count_homes ss)))
      (act_below number a (map item_of (count_homes ss)) (counts_below ss))

  of_cells : (cells : List Cell) → AreBelow (items_of cells) → AllByRecursion (λ (c : Cell). IsBelow c.item) cells
  of_cells [] all = tt
  of_cells (c ∷ cells) (here, rest) = (here, of_cells cells rest)

pub cells_within : (p : Program) (cells : List Cell) → cells ≡ cells_of p →
    All (λ (c : Cell). IfSome c.item (λ place. place < length p.layout.items)) cells
cells_within p cells same =
    let most = length p.layout.items in
    let front = item_homes 0 p.layout.items in
    let behind = count_homes (program_statements p) in
    let all : AllByRecursion (λ (o : Option ℕ). IfSome o (λ place. place < most)) (items_of cells) =
    subst (λ os. AllByRecursion (λ (o : Option ℕ). IfSome o (λ place. place < most)) os)
    (sym (ap items_of same ∙ (cells_same p ∙ map-append item_of front behind)))
    (items_below most 0 p.layout.items (map item_of behind) (omega arith) (counts_below most (program_statements p))) in
    All-from_recursion (λ (c : Cell). IfSome c.item (λ place. place < most)) cells (of_cells most cells all)
