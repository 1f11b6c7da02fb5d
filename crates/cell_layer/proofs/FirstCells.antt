-- What is known of cells where a run begins, cell by cell and by homes.
use Rattle.std.proofs.Common.{◌≡◌, ◌≤◌, ◌<◌, ◌+◌, ◌*◌, ℕ, ℤ, zero, suc, pos, Bool, true, false, if◌then◌else◌, List, [], ◌∷◌, ◌++◌, map, length, take, get_or, replicate, Option, Some, None, refl, sym, ap, subst, ◌∙◌, append_assoc, slice_set, arith}
use Rattle.std.specs.Prelude.{IfSome, nat_le, slice_get, bytes_eq}
use Rattle.std.specs.List.{All, AllByRecursion}
use Rattle.std.specs.Option.{option_map_or}
use Rattle.std.proofs.lemmas.Bool.{leb-true}
use Rattle.std.proofs.lemmas.Int.{ints, clamps}
use Rattle.std.proofs.lemmas.List.{length-map, map-append, get_or-map, take_all}
use Rattle.std.proofs.lemmas.List.Elements.{All-from_recursion}
use Rattle.cob_tree.specs.declared.form.Form.{Form}
use Rattle.cob_tree.specs.declared.form.Form.TheVariants as form
use Rattle.cob_data.specs.declared.layout.Item.{Item}
use Rattle.cob_data.specs.declared.layout.Layout.{Layout}
use Rattle.num_bytes.specs.Reading.{contents_value}
use Rattle.cob_program.specs.Act.{Turns, times, Stmt, MkStmt, Act, perform, Program}
use Rattle.cob_program.specs.Statements.{program_statements}
use Rattle.cob_program.specs.Values.{◌>>=◌}
use Rattle.cob_runs.specs.declared.action.Cell.{Cell}
use Rattle.cob_runs.specs.Contents.{item_at, form_at, times_at}
use Rattle.cob_store.specs.WellFormed.{IsShort}
use Rattle.cob_graph.specs.Graphs.{cells_of}
use Rattle.cob_graph.specs.declared.homes.Home.{Home}
use Rattle.cob_graph.specs.declared.homes.Home.TheVariants.{Item as of_item, Count as of_count}
use Rattle.cob_graph.specs.Homes.{home_of, if_named, item_homes, turns_homes, act_homes, count_homes, homes_of}
use Rattle.cob_graph.specs.Numbers.{item_of, items_of}
use Rattle.cob_graph.proofs.Parallel.{cells_same}
use Rattle.interval_domain.specs.Known.{Known, IsOrdered, joined_known}
use Rattle.interval_domain.specs.Rows as rows
use Rattle.interval_domain.specs.Rows.{IsReached, words_in, cells_in, row_from}
use Rattle.cell_laws.specs.Entry.{values_over, first_number, point, least_of, entry_known, entry_cells}
use Rattle.cell_layer.specs.Firsts.{AreOver, bytes_in, number_of, first_known, first_cells}

-- ---- a row that is reached

abbrev pub zeros : ℕ → List ℤ
zeros zero = []
zeros (suc n) = pos 0 ∷ pos 0 ∷ zeros n

zeros_are : (n : ℕ) → replicate (2 * n) (pos 0) ≡ zeros n
zeros_are zero = refl
zeros_are (suc n) =
    let two : 2 * suc n ≡ suc (suc (2 * n)) = omega arith in
    ap (λ m. replicate m (pos 0)) two ∙ ap (λ ws. pos 0 ∷ pos 0 ∷ ws) (zeros_are n)

zeros_said : (n : ℕ) → zeros n ≡ words_in (cells_in (zeros n))
zeros_said zero = refl
zeros_said (suc n) = ap (λ ws. pos 0 ∷ pos 0 ∷ ws) (zeros_said n)

zeros_many : (n : ℕ) → length (cells_in (zeros n)) ≡ n
zeros_many zero = refl
zeros_many (suc n) = ap suc (zeros_many n)

pub begun : (n : ℕ) (row blank : List ℤ) → length row ≡ suc (2 * n) → blank ≡ row_from (length row) None →
    slice_set blank 0 (pos 1) ≡ pos 1 ∷ zeros n
begun n row blank words is =
    ap (λ ws. slice_set ws 0 (pos 1)) (is ∙ ap (λ m. replicate m (pos 0)) words) ∙ ap (λ ws. pos 1 ∷ ws) (zeros_are n)

pub begun_reached : (n : ℕ) → IsReached (pos 1 ∷ zeros n)
begun_reached n = ap (λ ws. pos 1 ∷ ws) (zeros_said n)

pub begun_many : (n : ℕ) → length (rows.cells_of (pos 1 ∷ zeros n)) ≡ n
begun_many n = zeros_many n

-- ---- one cell after the other

bind_ordered : {A : Type 0} (o : Option A) (f : A → Known) → ((a : A) → IsOrdered (f a)) → IsOrdered (o >>= f)
bind_ordered None f each = tt
bind_ordered (Some a) f each = each a

point_ordered : (z : ℤ) → IsOrdered (point z)
point_ordered z = grind (arith, ints)

joined_ordered : (a b : Known) → IsOrdered a → IsOrdered b → IsOrdered (joined_known a b)
joined_ordered None b h k = tt
joined_ordered (Some i) None h k = tt
joined_ordered (Some i) (Some j) h k = omega (arith, ints, clamps, h, k)

pub number_ordered : (o : Option ℤ) → IsOrdered (o >>= point)
number_ordered o = bind_ordered o point point_ordered

pub least_ordered : (f : ℕ → Option ℤ) (count : ℕ) → IsOrdered (least_of f count)
least_ordered f zero = tt
least_ordered f (suc zero) = number_ordered (f 0)
least_ordered f (suc (suc k)) = joined_ordered (least_of f (suc k)) (f (suc k) >>= point) (least_ordered f (suc k)) (number_ordered (f (suc k)))

pub first_ordered : (l : Layout) (o : Option ℕ) → IsOrdered (o >>= λ place. entry_known l (of_item place))
first_ordered l o = bind_ordered o (λ place. entry_known l (of_item place)) (λ place. least_ordered (first_number l place) (times_at l place))

-- ---- one occurrence after the other

pub least_next : (f : ℕ → Option ℤ) (k : ℕ) (known next both : Known) → 1 ≤ k → known ≡ least_of f k → next ≡ (f k >>= point) → both ≡ joined_known known next →
    both ≡ least_of f (k + 1)
least_next f zero known next both some is at joined = absurd (omega (arith, some))
least_next f (suc k) known next both some is at joined =
    let more : suc (suc k) ≡ suc k + 1 = omega arith in
    joined ∙ (ap (λ c. joined_known c next) is ∙ (ap (λ c. joined_known (least_of f (suc k)) c) at ∙ ap (least_of f) more))

-- ---- an item

-- what is known of the item at a place, if there is one
abbrev entry_by : List ℕ → List ℕ → Option Item → Known
entry_by zeros ones o =
    least_of (λ n.
    if bytes_eq (option_map_or (λ i. bytes_in i zeros n) o []) (option_map_or (λ i. bytes_in i ones n) o [])
    then contents_value (option_map_or (λ i. i.form) o form.Group) (option_map_or (λ i. bytes_in i zeros n) o []) else None)
    (option_map_or (λ i. i.times) o 1)

pub no_entry : (l : Layout) (place : ℕ) (o : Option Item) → o ≡ item_at l place → o ≡ None → None ≡ entry_known l (of_item place)
no_entry l place o at none = sym (ap (entry_by (values_over l 0) (values_over l 1)) (sym at ∙ none))

pub item_entry : (l : Layout) (zeros ones : List ℕ) (place : ℕ) (o : Option Item) (i : Item) → AreOver l zeros ones → o ≡ item_at l place → o ≡ Some i →
    least_of (number_of i zeros ones) i.times ≡ entry_known l (of_item place)
item_entry l zeros ones place o i over at is =
    ap (λ z. least_of (number_of i z ones) i.times) over.over_zeros
    ∙ (ap (λ z. least_of (number_of i (values_over l 0) z) i.times) over.over_ones
    ∙ sym (ap (entry_by (values_over l 0) (values_over l 1)) (sym at ∙ is)))

pub short_form : (l : Layout) (place : ℕ) (o : Option Item) (i : Item) → o ≡ item_at l place → o ≡ Some i → IsShort (form_at l place) → IsShort i.form
short_form l place o i at is short =
    subst IsShort (ap (λ (q : Option Item). option_map_or (λ j. j.form) q form.Group) (sym at ∙ is)) short

pub firsts_many : (l : Layout) (cells : List Cell) → length (first_cells l cells) ≡ length cells
firsts_many l cells = length-map cells (first_known l)

pub first_got : (l : Layout) (cells : List Cell) (k : ℕ) (d : Cell) → k < length cells →
    get_or (first_cells l cells) k None ≡ first_known l (get_or cells k d)
first_got l cells k d within = get_or-map (first_known l) cells k d None within

set_next : (k : ℕ) (xs fs : List Known) (y : Known) → k < length xs → k < length fs → take k xs ≡ take k fs → y ≡ get_or fs k None →
    take (suc k) (slice_set xs k y) ≡ take (suc k) fs
set_next k [] fs y h i e is = absurd (omega (arith, h))
set_next k (x ∷ xs) [] y h i e is = absurd (omega (arith, i))
set_next zero (x ∷ xs) (f ∷ fs) y h i e is = ap (λ z. z ∷ []) is
set_next (suc k) (x ∷ xs) (f ∷ fs) y h i e is =
    let head : x ≡ f = cc in
    let tail : take k xs ≡ take k fs = cc in
    ap (λ z. z ∷ take (suc k) (slice_set xs k y)) head
    ∙ ap (λ zs. f ∷ zs) (set_next k xs fs y (omega (arith, h)) (omega (arith, i)) tail is)

pub one_more : (k : ℕ) (xs fs : List Known) (y : Known) → k < length xs → k < length fs → take k xs ≡ take k fs → y ≡ get_or fs k None →
    take (k + 1) (slice_set xs k y) ≡ take (k + 1) fs
one_more k xs fs y h i e is =
    let next : suc k ≡ k + 1 = omega arith in
    subst (λ n. take n (slice_set xs k y) ≡ take n fs) next (set_next k xs fs y h i e is)

pub all_set : (k : ℕ) (xs fs : List Known) → length xs ≤ k → length fs ≤ k → take k xs ≡ take k fs → xs ≡ fs
all_set k xs fs h i e = sym (take_all k xs h) ∙ (e ∙ take_all k fs i)

-- ---- the cells of a program

-- by the item of a home, if it has one
abbrev by_item : Layout → Option ℕ → Known
by_item l o = o >>= λ place. entry_known l (of_item place)

by_items : (l : Layout) (cells : List Cell) → first_cells l cells ≡ map (by_item l) (items_of cells)
by_items l [] = refl
by_items l (c ∷ cells) = ap (λ ks. first_known l c ∷ ks) (by_items l cells)

of_home : (l : Layout) (h : Home) → by_item l (item_of h) ≡ entry_known l h
of_home l (of_item place) = refl
of_home l (of_count statement) = refl

of_homes : (l : Layout) (hs : List Home) → map (by_item l) (map item_of hs) ≡ map (entry_known l) hs
of_homes l [] = refl
of_homes l (h ∷ hs) =
    ap (λ k. k ∷ map (by_item l) (map item_of hs)) (of_home l h) ∙ ap (λ ks. entry_known l h ∷ ks) (of_homes l hs)

pub firsts_are : (p : Program) (cells : List Cell) → cells ≡ cells_of p → first_cells p.layout cells ≡ entry_cells p
firsts_are p cells same =
    by_items p.layout cells
    ∙ (ap (map (by_item p.layout)) (ap items_of same ∙ cells_same p) ∙ of_homes p.layout (homes_of p))

-- ---- texts that are read as numbers are short

module _ (l : Layout) where
  abbrev IsShortAt : Option ℕ → Type 0
  IsShortAt o = IfSome o (λ place. IsShort (form_at l place))

  abbrev AreShort : List (Option ℕ) → Type 0
  AreShort os = AllByRecursion IsShortAt os

  home_short : (place : ℕ) (f : Form) (os : List (Option ℕ)) → form_at l place ≡ f → AreShort os → AreShort (map item_of (home_of place f) ++ os)
  home_short place (form.Number digits scale signed kept) os e all = (subst IsShort (sym e) tt, all)
  home_short place (form.Text n) os e all = go (nat_le n 18) refl
    where
      go : (short : Bool) → nat_le n 18 ≡ short → AreShort (map item_of (if short then of_item place ∷ [] else []) ++ os)
      go true is = (subst IsShort (sym e) (leb-true n 18 is), all)
      go false is = all
  home_short place (form.Edited picture digits scale) os e all = all
  home_short place form.Group os e all = all

  named_short : {A : Type 0} (o : Option A) (place : ℕ) (f : Form) (os : List (Option ℕ)) → form_at l place ≡ f → AreShort os →
      AreShort (map item_of (if_named o (home_of place f)) ++ os)
  named_short None place f os e all = all
  named_short (Some n) place f os e all = home_short place f os e all

  items_short : (n : ℕ) (is_ : List Item) (os : List (Option ℕ)) → ((k : ℕ) (i : Item) → slice_get is_ k ≡ Some i → item_at l (n + k) ≡ Some i) →
      AreShort os → AreShort (map item_of (item_homes n is_) ++ os)
  items_short n [] os at all = all
  items_short n (i ∷ is_) os at all =
      let here = if_named i.name (home_of n i.form) in
      let rest = item_homes (suc n) is_ in
      let cut : map item_of (here ++ rest) ++ os ≡ map item_of here ++ (map item_of rest ++ os) =
      ap (λ xs. xs ++ os) (map-append item_of here rest) ∙ append_assoc (map item_of here) (map item_of rest) os in
      let no_more : n + 0 ≡ n = omega arith in
      let first_at : item_at l n ≡ Some i = ap (item_at l) (sym no_more) ∙ at 0 i refl in
      let is : form_at l n ≡ i.form = ap (λ (o : Option Item). option_map_or (λ j. j.form) o form.Group) first_at in
      subst AreShort (sym cut)
      (named_short i.name n i.form (map item_of rest ++ os) is
      (items_short (suc n) is_ os
      (λ k j e. let next : suc n + k ≡ n + suc k = omega arith in ap (item_at l) next ∙ at (suc k) j e) all))

  turns_short : (n : ℕ) (t : Turns) (os : List (Option ℕ)) → AreShort os → AreShort (map item_of (turns_homes n t) ++ os)
  turns_short n (times x) os all = (tt, all)
  turns_short n _ os all = all

  act_short : (n : ℕ) (a : Act) (os : List (Option ℕ)) → AreShort os → AreShort (map item_of (act_homes n a) ++ os)
  act_short n (perform body turns) os all = turns_short n turns os all
  act_short n _ os all = all

  counts_short : (ss : List Stmt) → AreShort (map item_of (count_homes ss))
  counts_short [] = tt
  counts_short (MkStmt number line a ∷ ss) =
      subst AreShort (sym (map-append item_of (act_homes number a) (count_homes ss)))
      (act_short number a (map item_of (count_homes ss)) (counts_short ss))

  of_cells : (cells : List Cell) → AreShort (items_of cells) → AllByRecursion (λ (c : Cell). IsShortAt c.item) cells
  of_cells [] all = tt
  of_cells (c ∷ cells) (here, rest) = (here, of_cells cells rest)

pub cells_short : (p : Program) (cells : List Cell) → cells ≡ cells_of p →
    All (λ (c : Cell). IfSome c.item (λ place. IsShort (form_at p.layout place))) cells
cells_short p cells same =
    let l = p.layout in
    let front = item_homes 0 l.items in
    let behind = count_homes (program_statements p) in
    let all : AllByRecursion (λ (o : Option ℕ). IfSome o (λ place. IsShort (form_at l place))) (items_of cells) =
    subst (λ os. AllByRecursion (λ (o : Option ℕ). IfSome o (λ place. IsShort (form_at l place))) os)
    (sym (ap items_of same ∙ (cells_same p ∙ map-append item_of front behind)))
    (items_short l 0 l.items (map item_of behind)
    (λ k i e. let none : 0 + k ≡ k = omega arith in ap (item_at l) none ∙ e) (counts_short l (program_statements p))) in
    All-from_recursion (λ (c : Cell). IfSome c.item (λ place. IsShort (form_at l place))) cells (of_cells l cells all)

-- a program has as many cells as homes
pub homes_many : (p : Program) → length (homes_of p) ≡ length (cells_of p)
homes_many p =
    sym (length-map (homes_of p) item_of) ∙ (ap length (sym (cells_same p)) ∙ length-map (cells_of p) (λ (c : Cell). c.item))
