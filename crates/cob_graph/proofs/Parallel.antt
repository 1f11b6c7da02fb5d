-- Cells and what they are of stand in one order.
use Rattle.std.proofs.Common.{◌≡◌, ℕ, suc, ◌+◌, Bool, true, false, if◌then◌else◌, List, [], ◌∷◌, ◌++◌, length, map, Option, Some, None, refl, sym, ap, ◌∙◌, append_assoc, arith}
use Rattle.std.specs.Prelude.{nat_le}
use Rattle.std.proofs.lemmas.List.{map-append, length-append, length-map}
use Rattle.cob_tree.specs.declared.form.Form.{Form}
use Rattle.cob_tree.specs.declared.form.Form.TheVariants as form
use Rattle.cob_data.specs.declared.layout.Item.{Item}
use Rattle.cob_data.specs.declared.layout.Layout.{Layout}
use Rattle.cob_program.specs.Act.{Turns, times, Stmt, MkStmt, Act, perform, Program}
use Rattle.cob_program.specs.Statements.{program_statements}
use Rattle.cob_runs.specs.declared.action.Cell.{Cell}
use Rattle.cob_graph.specs.Graphs.{cells_of}
use Rattle.cob_graph.specs.Homes.{is_home, home_of, if_named, item_homes, turns_homes, act_homes, count_homes, homes_of, cell_of_home}
use Rattle.cob_graph.specs.declared.homes.Home.{Home}
use Rattle.cob_graph.specs.declared.homes.Home.TheVariants.{Item as of_item, Count as of_count}
use Rattle.cob_graph.specs.Numbers.{place_from, item_of, items_of, is_item, item_from, items_before}

item_same : (l : Layout) (h : Home) → (cell_of_home l h).item ≡ item_of h
item_same l (of_item place) = refl
item_same l (of_count statement) = refl

homes_same : (l : Layout) (hs : List Home) → items_of (map (cell_of_home l) hs) ≡ map item_of hs
homes_same l [] = refl
homes_same l (h ∷ hs) = ap (λ o. o ∷ items_of (map (cell_of_home l) hs)) (item_same l h) ∙ ap (λ os. item_of h ∷ os) (homes_same l hs)

pub cells_same : (p : Program) → items_of (cells_of p) ≡ map item_of (homes_of p)
cells_same p = homes_same p.layout (homes_of p)

-- ---- the cell of an item

is_same : (place : ℕ) (h : Home) → is_item place (item_of h) ≡ is_home h (of_item place)
is_same place (of_item other) = refl
is_same place (of_count statement) = refl

pub item_place : (place n : ℕ) (hs : List Home) → item_from n place (map item_of hs) ≡ place_from n (of_item place) hs
item_place place n [] = refl
item_place place n (h ∷ hs) =
    ap (λ (b : Bool). if b then Some n else item_from (n + 1) place (map item_of hs)) (is_same place h)
    ∙ ap (λ (o : Option ℕ). if is_home h (of_item place) then Some n else o) (item_place place (n + 1) hs)

-- ---- the cell of a counter

home_items : (place : ℕ) (f : Form) (os : List (Option ℕ)) →
    items_before (map item_of (home_of place f) ++ os) ≡ length (home_of place f) + items_before os
home_items place (form.Number digits scale signed kept) os = omega arith
home_items place (form.Text n) os = go (nat_le n 18)
  where
    go : (short : Bool) → items_before (map item_of (if short then of_item place ∷ [] else []) ++ os)
        ≡ length (if short then of_item place ∷ [] else []) + items_before os
    go true = omega arith
    go false = omega arith
home_items place (form.Edited picture digits scale) os = omega arith
home_items place form.Group os = omega arith

named_items : {A : Type 0} (o : Option A) (place : ℕ) (f : Form) (os : List (Option ℕ)) →
    items_before (map item_of (if_named o (home_of place f)) ++ os) ≡ length (if_named o (home_of place f)) + items_before os
named_items None place f os = omega arith
named_items (Some n) place f os = home_items place f os

first_items : (n : ℕ) (is_ : List Item) (os : List (Option ℕ)) →
    items_before (map item_of (item_homes n is_) ++ os) ≡ length (item_homes n is_) + items_before os
first_items n [] os = omega arith
first_items n (i ∷ is_) os =
    let here = if_named i.name (home_of n i.form) in
    let rest = item_homes (suc n) is_ in
    let cut : map item_of (here ++ rest) ++ os ≡ map item_of here ++ (map item_of rest ++ os) =
    ap (λ xs. xs ++ os) (map-append item_of here rest) ∙ append_assoc (map item_of here) (map item_of rest) os in
    let size : length (here ++ rest) ≡ length here + length rest = length-append here rest in
    ap items_before cut ∙ (named_items i.name n i.form (map item_of rest ++ os)
    ∙ (ap (λ k. length here + k) (first_items (suc n) is_ os) ∙ omega arith))

turns_items : (n : ℕ) (t : Turns) (hs : List Home) → items_before (map item_of hs) ≡ 0 →
    items_before (map item_of (turns_homes n t ++ hs)) ≡ 0
turns_items n (times x) hs e = refl
turns_items n _ hs e = e

act_items : (n : ℕ) (a : Act) (hs : List Home) → items_before (map item_of hs) ≡ 0 →
    items_before (map item_of (act_homes n a ++ hs)) ≡ 0
act_items n (perform body turns) hs e = turns_items n turns hs e
act_items n _ hs e = e

no_items : (ss : List Stmt) → items_before (map item_of (count_homes ss)) ≡ 0
no_items [] = refl
no_items (MkStmt number line a ∷ ss) = act_items number a (count_homes ss) (no_items ss)

-- counters stand behind the cells of items
pub items_first : (p : Program) → items_before (items_of (cells_of p)) ≡ length (item_homes 0 p.layout.items)
items_first p =
    let front = item_homes 0 p.layout.items in
    let behind = count_homes (program_statements p) in
    ap items_before (cells_same p ∙ map-append item_of front behind)
    ∙ (first_items 0 p.layout.items (map item_of behind)
    ∙ (ap (λ k. length front + k) (no_items (program_statements p)) ∙ omega arith))

pub as_many : (p : Program) →
    length (cells_of p) ≡ length (item_homes 0 p.layout.items) + length (count_homes (program_statements p))
as_many p =
    let front = item_homes 0 p.layout.items in
    let behind = count_homes (program_statements p) in
    sym (length-map (cells_of p) (λ (c : Cell). c.item))
    ∙ (ap length (cells_same p) ∙ (length-map (front ++ behind) item_of ∙ length-append front behind))

home_passed : (statement place : ℕ) (f : Form) (k : ℕ) (rest : List Home) →
    place_from k (of_count statement) (home_of place f ++ rest)
    ≡ place_from (k + length (home_of place f)) (of_count statement) rest
home_passed statement place (form.Number digits scale signed kept) k rest = refl
home_passed statement place (form.Text n) k rest = go (nat_le n 18)
  where
    go : (short : Bool) → place_from k (of_count statement) ((if short then of_item place ∷ [] else []) ++ rest)
        ≡ place_from (k + length (if short then of_item place ∷ [] else [])) (of_count statement) rest
    go true = refl
    go false = ap (λ n. place_from n (of_count statement) rest) (omega arith)
home_passed statement place (form.Edited picture digits scale) k rest = ap (λ n. place_from n (of_count statement) rest) (omega arith)
home_passed statement place form.Group k rest = ap (λ n. place_from n (of_count statement) rest) (omega arith)

named_passed : {A : Type 0} (o : Option A) (statement place : ℕ) (f : Form) (k : ℕ) (rest : List Home) →
    place_from k (of_count statement) (if_named o (home_of place f) ++ rest)
    ≡ place_from (k + length (if_named o (home_of place f))) (of_count statement) rest
named_passed None statement place f k rest = ap (λ n. place_from n (of_count statement) rest) (omega arith)
named_passed (Some n) statement place f k rest = home_passed statement place f k rest

-- a counter is sought behind the cells of items
pub items_passed : (statement n k : ℕ) (is_ : List Item) (rest : List Home) →
    place_from k (of_count statement) (item_homes n is_ ++ rest)
    ≡ place_from (k + length (item_homes n is_)) (of_count statement) rest
items_passed statement n k [] rest = ap (λ j. place_from j (of_count statement) rest) (omega arith)
items_passed statement n k (i ∷ is_) rest =
    let here = if_named i.name (home_of n i.form) in
    let more = item_homes (suc n) is_ in
    let size : length (here ++ more) ≡ length here + length more = length-append here more in
    ap (place_from k (of_count statement)) (append_assoc here more rest)
    ∙ (named_passed i.name statement n i.form k (more ++ rest)
    ∙ (items_passed statement (suc n) (k + length here) is_ rest
    ∙ ap (λ j. place_from j (of_count statement) rest) (omega arith)))
