-- Places rise along a program's cells, and the cells of counters stand behind them.
use Rattle.std.proofs.Common.{◌≡◌, ◌≤◌, ◌<◌, ℕ, zero, suc, ◌+◌, Bool, true, false, if◌then◌else◌, List, [], ◌∷◌, ◌++◌, length, get_or, map, Option, Some, None, refl, sym, ap, subst, ◌∙◌, append_assoc, ltb-true, ltb-false, arith}
use Rattle.std.specs.Prelude.{⊤, nat_le, nat_lt, ◌==◌, cond, is_some, slice_get}
use Rattle.std.specs.Option.{option_map}
use Rattle.std.specs.List.{AllByRecursion, prefix_len}
use Rattle.std.specs.List.Sorted.{IsPartitionedBy, IsPartitionPoint}
use Rattle.std.proofs.lemmas.Bool.{eqb-true, le-ltb, lt-ltb, ne_eqb}
use Rattle.std.proofs.lemmas.List.{map-append, length-map, get_or-map}
use Rattle.std.proofs.lemmas.List.Sums.{prefix_len_is}
use Rattle.std.proofs.lemmas.Option.{slice_get-map}
use Rattle.cob_tree.specs.declared.form.Form.{Form}
use Rattle.cob_tree.specs.declared.form.Form.TheVariants as form
use Rattle.cob_data.specs.declared.layout.Item.{Item}
use Rattle.cob_program.specs.Act.{Turns, times, Stmt, MkStmt, Act, perform, Program}
use Rattle.cob_program.specs.Statements.{program_statements}
use Rattle.cob_runs.specs.declared.action.Cell.{Cell}
use Rattle.cob_graph.specs.Graphs.{cells_of}
use Rattle.cob_graph.specs.declared.homes.Home.TheVariants.{Item as of_item}
use Rattle.cob_graph.specs.Homes.{home_of, if_named, item_homes, turns_homes, act_homes, count_homes}
use Rattle.cob_graph.specs.Numbers.{item_of, items_of, is_lower, item_from, item_here, lower_items, number_of}
use Rattle.cob_graph.proofs.Parallel.{cells_same}
use Rattle.cob_graph.proofs.CountLemmas.{item_number}

abbrev AreCounters : List (Option ℕ) → Type 0
AreCounters os = AllByRecursion (λ o. o ≡ None) os

-- places from a number on, and counters behind them
abbrev pub RisesFrom : ℕ → List (Option ℕ) → Type 0
RisesFrom n [] = ⊤
RisesFrom n (None ∷ os) = AreCounters os
RisesFrom n (Some place ∷ os) = (n ≤ place) × RisesFrom (suc place) os

-- ---- a program's cells

counters_rise : (n : ℕ) (os : List (Option ℕ)) → AreCounters os → RisesFrom n os
counters_rise n [] all = tt
counters_rise n (None ∷ os) (e, rest) = rest
counters_rise n (Some place ∷ os) (e, rest) = absurd cc

from_before : (n : ℕ) (os : List (Option ℕ)) → RisesFrom (suc n) os → RisesFrom n os
from_before n [] r = tt
from_before n (None ∷ os) r = r
from_before n (Some place ∷ os) (le, r) = (omega (arith, le), r)

home_rises : (place : ℕ) (f : Form) (os : List (Option ℕ)) → RisesFrom (suc place) os → RisesFrom place (map item_of (home_of place f) ++ os)
home_rises place (form.Number digits scale signed kept) os r = (omega arith, r)
home_rises place (form.Text n) os r = go (nat_le n 18)
  where
    go : (short : Bool) → RisesFrom place (map item_of (if short then of_item place ∷ [] else []) ++ os)
    go true = (omega arith, r)
    go false = from_before place os r
home_rises place (form.Edited picture digits scale) os r = from_before place os r
home_rises place form.Group os r = from_before place os r

named_rises : {A : Type 0} (o : Option A) (place : ℕ) (f : Form) (os : List (Option ℕ)) → RisesFrom (suc place) os →
    RisesFrom place (map item_of (if_named o (home_of place f)) ++ os)
named_rises None place f os r = from_before place os r
named_rises (Some n) place f os r = home_rises place f os r

items_rise : (n : ℕ) (is_ : List Item) (os : List (Option ℕ)) → AreCounters os → RisesFrom n (map item_of (item_homes n is_) ++ os)
items_rise n [] os all = counters_rise n os all
items_rise n (i ∷ is_) os all =
    let here = if_named i.name (home_of n i.form) in
    let rest = item_homes (suc n) is_ in
    let cut : map item_of (here ++ rest) ++ os ≡ map item_of here ++ (map item_of rest ++ os) =
    ap (λ xs. xs ++ os) (map-append item_of here rest) ∙ append_assoc (map item_of here) (map item_of rest) os in
    subst (RisesFrom n) (sym cut) (named_rises i.name n i.form (map item_of rest ++ os) (items_rise (suc n) is_ os all))

turns_count : (n : ℕ) (t : Turns) (os : List (Option ℕ)) → AreCounters os → AreCounters (map item_of (turns_homes n t) ++ os)
turns_count n (times x) os all = (refl, all)
turns_count n _ os all = all

act_counts : (n : ℕ) (a : Act) (os : List (Option ℕ)) → AreCounters os → AreCounters (map item_of (act_homes n a) ++ os)
act_counts n (perform body turns) os all = turns_count n turns os all
act_counts n _ os all = all

all_count : (ss : List Stmt) → AreCounters (map item_of (count_homes ss))
all_count [] = tt
all_count (MkStmt number line a ∷ ss) =
    subst AreCounters (sym (map-append item_of (act_homes number a) (count_homes ss)))
    (act_counts number a (map item_of (count_homes ss)) (all_count ss))

pub items_of_cells_rise : (p : Program) → RisesFrom 0 (items_of (cells_of p))
items_of_cells_rise p =
    let front = item_homes 0 p.layout.items in
    let behind = count_homes (program_statements p) in
    subst (RisesFrom 0) (sym (cells_same p ∙ map-append item_of front behind))
    (items_rise 0 p.layout.items (map item_of behind) (all_count (program_statements p)))

-- ---- a test that no counter passes, and with a place each lower one

module _ (test : Option ℕ → Bool) (counter : test None ≡ false)
    (lower : (a b : ℕ) → a ≤ b → test (Some b) ≡ true → test (Some a) ≡ true) where
  none_passes : (os : List (Option ℕ)) (j : ℕ) (d : Option ℕ) → AreCounters os → j < length os → ¬ test (get_or os j d) ≡ true
  none_passes [] j d all within e = absurd (omega (arith, within))
  none_passes (o ∷ os) zero d (is, rest) within e = let same = sym e ∙ (ap test is ∙ counter) in absurd cc
  none_passes (o ∷ os) (suc j) d (is, rest) within e = none_passes os j d rest (omega (arith, within)) e

  -- what passes has no lower place than where the places begin
  first_passes : (n : ℕ) (os : List (Option ℕ)) (j : ℕ) (d : Option ℕ) → RisesFrom n os → j < length os →
      test (get_or os j d) ≡ true → test (Some n) ≡ true
  first_passes n [] j d r within e = absurd (omega (arith, within))
  first_passes n (None ∷ os) zero d r within e = let same = sym e ∙ counter in absurd cc
  first_passes n (None ∷ os) (suc j) d r within e = absurd (none_passes os j d r (omega (arith, within)) e)
  first_passes n (Some place ∷ os) zero d (le, r) within e = lower n place le e
  first_passes n (Some place ∷ os) (suc j) d (le, r) within e =
      lower n (suc place) (omega (arith, le)) (first_passes (suc place) os j d r (omega (arith, within)) e)

  parted : (n : ℕ) (os : List (Option ℕ)) → RisesFrom n os → (i j : ℕ) (d : Option ℕ) → i ≤ j → j < length os →
      test (get_or os j d) ≡ true → test (get_or os i d) ≡ true
  parted n [] r i j d le within e = absurd (omega (arith, within))
  parted n (None ∷ os) r zero zero d le within e = e
  parted n (None ∷ os) r (suc i) zero d le within e = absurd (omega (arith, le))
  parted n (None ∷ os) r i (suc j) d le within e = absurd (none_passes os j d r (omega (arith, within)) e)
  parted n (Some place ∷ os) (low, r) zero zero d le within e = e
  parted n (Some place ∷ os) (low, r) (suc i) zero d le within e = absurd (omega (arith, le))
  parted n (Some place ∷ os) (low, r) zero (suc j) d le within e =
      lower place (suc place) (omega arith) (first_passes (suc place) os j d r (omega (arith, within)) e)
  parted n (Some place ∷ os) (low, r) (suc i) (suc j) d le within e =
      parted (suc place) os r i j d (omega (arith, le)) (omega (arith, within)) e

  pub cells_parted : (p : Program) (cells : List Cell) → cells ≡ cells_of p → IsPartitionedBy (λ (c : Cell). test c.item) cells
  cells_parted p cells same i j d le within e =
      let at = get_or-map (λ (c : Cell). c.item) cells in
      subst (λ o. test o ≡ true) (at i d None (omega (arith, le, within)))
      (parted 0 (items_of cells) (subst (λ cs. RisesFrom 0 (items_of cs)) (sym same) (items_of_cells_rise p)) i j None le
      (let size = length-map cells (λ (c : Cell). c.item) in omega (arith, within, size))
      (subst (λ o. test o ≡ true) (sym (at j d None within)) e))

  -- where all before a place pass and what stands there doesn't, so many stand in front that pass
  pub point_is : (cells : List Cell) (r : ℕ) → r ≤ length cells →
      IsPartitionPoint (λ (c : Cell). test c.item ≡ true) (λ (c : Cell). test c.item ≡ false) cells r →
      r ≡ prefix_len test (items_of cells)
  point_is [] r bound point = let none : r ≤ 0 = bound in omega (arith, none)
  point_is (c ∷ cs) r bound (passes, fails) =
      let size = length-map (c ∷ cs) (λ (x : Cell). x.item) in
      let at = get_or-map (λ (x : Cell). x.item) (c ∷ cs) in
      sym (prefix_len_is test (items_of (c ∷ cs)) r None (omega (arith, bound, size))
      (λ k less. ap test (at k c None (omega (arith, less, bound))) ∙ passes k c (omega arith) less)
      (λ less. let within : r < length (c ∷ cs) = omega (arith, less, size) in
      ap test (at r c None within) ∙ fails r c (omega arith) within))

-- ---- the two tests

pub lower_place : (place a b : ℕ) → a ≤ b → is_lower place (Some b) ≡ true → is_lower place (Some a) ≡ true
lower_place place a b le e = let less = ltb-true b place e in lt-ltb a place (omega (arith, le, less))

pub each_item : (a b : ℕ) → a ≤ b → is_some (Some b) ≡ true → is_some (Some a) ≡ true
each_item a b le e = refl

-- ---- the cell of an item

no_item : (n place : ℕ) (os : List (Option ℕ)) → AreCounters os → item_from n place os ≡ None
no_item n place [] all = refl
no_item n place (None ∷ os) (is, rest) = no_item (n + 1) place os rest
no_item n place (Some k ∷ os) (is, rest) = absurd cc

only_higher : (m n place : ℕ) (os : List (Option ℕ)) → place < m → RisesFrom m os → item_from n place os ≡ None
only_higher m n place [] less r = refl
only_higher m n place (None ∷ os) less r = no_item (n + 1) place os r
only_higher m n place (Some k ∷ os) less (le, r) =
    ap (λ (b : Bool). if b then Some n else item_from (n + 1) place os) (ne_eqb k place (λ e. omega (arith, less, le, e)))
    ∙ only_higher (suc k) (n + 1) place os (omega (arith, less, le)) r

pub found_behind_lower : (place m n : ℕ) (os : List (Option ℕ)) → RisesFrom m os →
    item_from n place os ≡ item_here (n + lower_items place os) place (slice_get os (lower_items place os))
found_behind_lower place m n [] r = refl
found_behind_lower place m n (None ∷ os) r = no_item (n + 1) place os r
found_behind_lower place m n (Some k ∷ os) (le, r) =
    by_place (nat_lt k place) refl (found_behind_lower place (suc k) (n + 1) os r)
  where
    behind : ℕ
    behind = lower_items place os

    ends : (same : Bool) → (k == place) ≡ same → place ≤ k →
        (if same then Some n else item_from (n + 1) place os) ≡ (if same then Some (n + 0) else None)
    ends true e low = ap Some (omega arith)
    ends false e low = only_higher (suc k) (n + 1) place os (omega (arith, low)) r

    by_place : (low : Bool) → nat_lt k place ≡ low →
        item_from (n + 1) place os ≡ item_here (n + 1 + behind) place (slice_get os behind) →
        (if k == place then Some n else item_from (n + 1) place os)
        ≡ item_here (n + cond low (1 + behind) 0) place (slice_get (Some k ∷ os) (cond low (1 + behind) 0))
    by_place true is rest =
        let less = ltb-true k place is in
        let one : suc behind ≡ 1 + behind = omega arith in
        ap (λ (b : Bool). if b then Some n else item_from (n + 1) place os) (ne_eqb k place (λ e. omega (arith, less, e)))
        ∙ (rest ∙ (ap (λ j. item_here j place (slice_get os behind)) (omega arith)
        ∙ ap (λ j. item_here (n + j) place (slice_get (Some k ∷ os) j)) one))
    by_place false is rest = ends (k == place) refl (ltb-false k place is)

-- at the first cell that isn't of a lower item
pub number_behind_lower : (p : Program) (cells : List Cell) (place r : ℕ) → cells ≡ cells_of p → r ≡ lower_items place (items_of cells) →
    item_here r place (option_map (λ (c : Cell). c.item) (slice_get cells r)) ≡ number_of p (of_item place)
number_behind_lower p cells place r same is =
    let os = items_of cells in
    let behind = lower_items place os in
    ap (item_here r place) (sym (slice_get-map (λ (c : Cell). c.item) cells r))
    ∙ (ap (λ k. item_here k place (slice_get os k)) is
    ∙ (ap (λ k. item_here k place (slice_get os behind)) (omega arith)
    ∙ (sym (found_behind_lower place 0 0 os (subst (λ cs. RisesFrom 0 (items_of cs)) (sym same) (items_of_cells_rise p)))
    ∙ (ap (λ cs. item_from 0 place (items_of cs)) same ∙ item_number p place))))

-- ---- an item whose cell is found elsewhere

no_item_at : (place k : ℕ) (os : List (Option ℕ)) → AreCounters os → slice_get os k ≡ Some (Some place) → ⊥
no_item_at place k [] all e = absurd cc
no_item_at place zero (o ∷ os) (is, rest) e = absurd cc
no_item_at place (suc k) (o ∷ os) (is, rest) e = no_item_at place k os rest e

no_lower : (m place k : ℕ) (os : List (Option ℕ)) → RisesFrom m os → slice_get os k ≡ Some (Some place) → m ≤ place
no_lower m place k [] r e = absurd cc
no_lower m place zero (None ∷ os) r e = absurd cc
no_lower m place (suc k) (None ∷ os) r e = absurd (no_item_at place k os r e)
no_lower m place zero (Some a ∷ os) (le, r) e = let same : a ≡ place = cc in omega (arith, le, same)
no_lower m place (suc k) (Some a ∷ os) (le, r) e = let less = no_lower (suc a) place k os r e in omega (arith, le, less)

-- as many are lower as stand before it
lower_before : (m place k : ℕ) (os : List (Option ℕ)) → RisesFrom m os → slice_get os k ≡ Some (Some place) → k ≡ lower_items place os
lower_before m place k [] r e = absurd cc
lower_before m place zero (None ∷ os) r e = absurd cc
lower_before m place (suc k) (None ∷ os) r e = absurd (no_item_at place k os r e)
lower_before m place zero (Some a ∷ os) (le, r) e =
    let same : a ≡ place = cc in
    ap (λ (b : Bool). cond b (1 + lower_items place os) 0) (sym (le-ltb a place (omega (arith, same))))
lower_before m place (suc k) (Some a ∷ os) (le, r) e =
    let less = no_lower (suc a) place k os r e in
    let rest = lower_before (suc a) place k os r e in
    let one : suc k ≡ 1 + lower_items place os = omega (arith, rest) in
    one ∙ ap (λ (b : Bool). cond b (1 + lower_items place os) 0) (sym (lt-ltb a place (omega (arith, less))))

item_at : (k place r : ℕ) (o : Option (Option ℕ)) → item_here k place o ≡ Some r → o ≡ Some (Some place)
item_at k place r None e = absurd cc
item_at k place r (Some None) e = absurd cc
item_at k place r (Some (Some a)) e = go (a == place) refl e
  where
    go : (same : Bool) → (a == place) ≡ same → (if same then Some k else None) ≡ Some r → Some (Some a) ≡ Some (Some place)
    go true is f = ap (λ n. Some (Some n)) (eqb-true a place is)
    go false is f = absurd cc

-- wherever it is found
pub number_here : (p : Program) (cells : List Cell) (place k : ℕ) (found : Option ℕ) → cells ≡ cells_of p →
    found ≡ item_here k place (option_map (λ (c : Cell). c.item) (slice_get cells k)) → (found ≡ None → ⊥) →
    found ≡ number_of p (of_item place)
number_here p cells place k None same e some = absurd (some refl)
number_here p cells place k (Some r) same e some =
    let here = option_map (λ (c : Cell). c.item) (slice_get cells k) in
    let at : slice_get (items_of cells) k ≡ Some (Some place) =
    slice_get-map (λ (c : Cell). c.item) cells k ∙ item_at k place r here (sym e) in
    let rises = subst (λ cs. RisesFrom 0 (items_of cs)) (sym same) (items_of_cells_rise p) in
    e ∙ number_behind_lower p cells place k same (lower_before 0 place k (items_of cells) rises at)
