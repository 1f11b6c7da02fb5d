-- No two cells of a program are of one home, and none of a source's is a table's.
use Rattle.std.proofs.Common.{◌≡◌, ◌≤◌, ◌<◌, ℕ, zero, suc, ◌+◌, Bool, true, false, if◌then◌else◌, List, [], ◌∷◌, ◌++◌, map, Option, Some, None, refl, sym, ap, subst, append_assoc, arith}
use Rattle.std.specs.Prelude.{nat_le, slice_get, ◌==◌, not}
use Rattle.std.specs.List.{AllByRecursion, range_with_len}
use Rattle.std.specs.Option.{option_map_or}
use Rattle.std.proofs.lemmas.Bool.{eq-eqb}
use Rattle.std.proofs.lemmas.Option.{same_Some, none-some}
use Rattle.cob_tree.specs.declared.form.Form.{Form}
use Rattle.cob_tree.specs.declared.form.Form.TheVariants as form
use Rattle.cob_data.specs.declared.layout.Item.{Item}
use Rattle.cob_program.specs.Act.{Turns, times, Stmt, MkStmt, Act, perform, Program}
use Rattle.cob_program.specs.Statements.{program_statements}
use Rattle.cob_runs.specs.Contents.{item_at}
use Rattle.cob_graph.specs.declared.graph.Graph.{Graph}
use Rattle.graph_runs.specs.Sources.{number_of, IsSourceGraph}
use Rattle.cob_graph.specs.declared.homes.Home.{Home}
use Rattle.cob_graph.specs.declared.homes.Home.TheVariants.{Item as of_item, Count as of_count}
use Rattle.cell_steps.specs.Cells.{is_table}
use Rattle.cob_graph.specs.Homes.{home_of, if_named, item_homes, turns_homes, act_homes, count_homes, homes_of}

-- ---- the order of homes: items by their places, and then counters by their statements

abbrev IsBefore : Home → Home → Type 0
IsBefore (of_item a) (of_item b) = a < b
IsBefore (of_item a) (of_count m) = Unit {0}
IsBefore (of_count m) (of_item a) = ⊥
IsBefore (of_count m) (of_count n) = m < n

abbrev Rise : List Home → Type 0
Rise [] = Unit {0}
Rise (h ∷ hs) = AllByRecursion (IsBefore h) hs × Rise hs

not_before_itself : (h : Home) → IsBefore h h → ⊥
not_before_itself (of_item a) less = omega (arith, less)
not_before_itself (of_count m) less = omega (arith, less)

before_at : (g h : Home) (hs : List Home) (k : ℕ) → AllByRecursion (IsBefore g) hs → slice_get hs k ≡ Some h → IsBefore g h
before_at g h [] k all at = absurd (none-some h at)
before_at g h (x ∷ hs) zero all at = subst (IsBefore g) (same_Some x h at) all.0
before_at g h (x ∷ hs) (suc k) all at = before_at g h hs k all.1 at

not_later : (g h : Home) (hs : List Home) (k : ℕ) → g ≡ h → AllByRecursion (IsBefore g) hs → slice_get hs k ≡ Some h → ⊥
not_later g h hs k same all at = not_before_itself h (subst (λ x. IsBefore x h) same (before_at g h hs k all at))

one_place : (hs : List Home) → Rise hs → (j k : ℕ) (h : Home) → slice_get hs j ≡ Some h → slice_get hs k ≡ Some h → j ≡ k
one_place [] rise j k h at also = absurd (none-some h at)
one_place (x ∷ hs) rise zero zero h at also = refl
one_place (x ∷ hs) rise zero (suc k) h at also = absurd (not_later x h hs k (same_Some x h at) rise.0 also)
one_place (x ∷ hs) rise (suc j) zero h at also = absurd (not_later x h hs j (same_Some x h also) rise.0 at)
one_place (x ∷ hs) rise (suc j) (suc k) h at also = ap suc (one_place hs rise.1 j k h at also)

-- ---- counters

abbrev IsCountFrom : ℕ → Home → Type 0
IsCountFrom low (of_item a) = ⊥
IsCountFrom low (of_count m) = low ≤ m

later_counts : (low : ℕ) (hs : List Home) → AllByRecursion (IsCountFrom (low + 1)) hs → AllByRecursion (IsCountFrom low) hs
later_counts low [] all = tt
later_counts low (of_item a ∷ hs) all = absurd all.0
later_counts low (of_count m ∷ hs) all = let more = all.0 in (omega (arith, more), later_counts low hs all.1)

before_counts : (low : ℕ) (hs : List Home) → AllByRecursion (IsCountFrom (low + 1)) hs → AllByRecursion (IsBefore (of_count low)) hs
before_counts low [] all = tt
before_counts low (of_item a ∷ hs) all = absurd all.0
before_counts low (of_count m ∷ hs) all = let more = all.0 in (omega (arith, more), before_counts low hs all.1)

record RisingCounts (low : ℕ) (hs : List Home) : Type 0 where
  rise : Rise hs
  from : AllByRecursion (IsCountFrom low) hs

skipped : (low : ℕ) (hs : List Home) → RisingCounts (low + 1) hs → RisingCounts low hs
skipped low hs later = record { rise = later.rise; from = later_counts low hs later.from }

turns_rise : (low : ℕ) (t : Turns) (hs : List Home) → RisingCounts (low + 1) hs → RisingCounts low (turns_homes low t ++ hs)
turns_rise low (times x) hs later =
    record { rise = (before_counts low hs later.from, later.rise); from = (omega arith, later_counts low hs later.from) }
turns_rise low _ hs later = skipped low hs later

act_rises : (low : ℕ) (a : Act) (hs : List Home) → RisingCounts (low + 1) hs → RisingCounts low (act_homes low a ++ hs)
act_rises low (perform body turns) hs later = turns_rise low turns hs later
act_rises low _ hs later = skipped low hs later

counts_rise : (low count : ℕ) (ss : List Stmt) → map number_of ss ≡ range_with_len low count → RisingCounts low (count_homes ss)
counts_rise low count [] order = record { rise = tt; from = tt }
counts_rise low zero (MkStmt m line a ∷ ss) order = absurd cc
counts_rise low (suc count) (MkStmt m line a ∷ ss) order =
    let same : low ≡ m = cc in
    let rest : map number_of ss ≡ range_with_len (low + 1) count = cc in
    subst (λ n. RisingCounts low (act_homes n a ++ count_homes ss)) same (act_rises low a (count_homes ss) (counts_rise (low + 1) count ss rest))

-- ---- items before them

abbrev IsFrom : ℕ → Home → Type 0
IsFrom low (of_item a) = low ≤ a
IsFrom low (of_count m) = Unit {0}

later_homes : (low : ℕ) (hs : List Home) → AllByRecursion (IsFrom (suc low)) hs → AllByRecursion (IsFrom low) hs
later_homes low [] all = tt
later_homes low (of_item a ∷ hs) all = let more = all.0 in (omega (arith, more), later_homes low hs all.1)
later_homes low (of_count m ∷ hs) all = (tt, later_homes low hs all.1)

before_homes : (low : ℕ) (hs : List Home) → AllByRecursion (IsFrom (suc low)) hs → AllByRecursion (IsBefore (of_item low)) hs
before_homes low [] all = tt
before_homes low (of_item a ∷ hs) all = let more = all.0 in (omega (arith, more), before_homes low hs all.1)
before_homes low (of_count m ∷ hs) all = (tt, before_homes low hs all.1)

from_counts : (low place : ℕ) (hs : List Home) → AllByRecursion (IsCountFrom low) hs → AllByRecursion (IsFrom place) hs
from_counts low place [] all = tt
from_counts low place (of_item a ∷ hs) all = absurd all.0
from_counts low place (of_count m ∷ hs) all = (tt, from_counts low place hs all.1)

record RisingHomes (low : ℕ) (hs : List Home) : Type 0 where
  rise : Rise hs
  from : AllByRecursion (IsFrom low) hs

passed : (low : ℕ) (hs : List Home) → RisingHomes (suc low) hs → RisingHomes low hs
passed low hs later = record { rise = later.rise; from = later_homes low hs later.from }

one_more : (low : ℕ) (hs : List Home) → RisingHomes (suc low) hs → RisingHomes low (of_item low ∷ hs)
one_more low hs later = record { rise = (before_homes low hs later.from, later.rise); from = (omega arith, later_homes low hs later.from) }

form_rises : (low : ℕ) (f : Form) (hs : List Home) → RisingHomes (suc low) hs → RisingHomes low (home_of low f ++ hs)
form_rises low (form.Number digits scale signed kept) hs later = one_more low hs later
form_rises low (form.Text n) hs later = by_length (nat_le n 18)
  where
    by_length : (short : Bool) → RisingHomes low ((if short then of_item low ∷ [] else []) ++ hs)
    by_length true = one_more low hs later
    by_length false = passed low hs later
form_rises low (form.Edited picture digits scale) hs later = passed low hs later
form_rises low form.Group hs later = passed low hs later

named_rises : {A : Type 0} (o : Option A) (low : ℕ) (f : Form) (hs : List Home) → RisingHomes (suc low) hs → RisingHomes low (if_named o (home_of low f) ++ hs)
named_rises None low f hs later = passed low hs later
named_rises (Some n) low f hs later = form_rises low f hs later

items_rise : (low from : ℕ) (is_ : List Item) (rest : List Home) → RisingCounts from rest → RisingHomes low (item_homes low is_ ++ rest)
items_rise low from [] rest counts = record { rise = counts.rise; from = from_counts from low rest counts.from }
items_rise low from (i ∷ is_) rest counts =
    let here = if_named i.name (home_of low i.form) in
    subst (RisingHomes low) (sym (append_assoc here (item_homes (suc low) is_) rest))
    (named_rises i.name low i.form (item_homes (suc low) is_ ++ rest) (items_rise (suc low) from is_ rest counts))

-- ---- all of them

pub homes_are_distinct : (p : Program) (count : ℕ) → map number_of (program_statements p) ≡ range_with_len 1 count → (j k : ℕ) (h : Home) →
    slice_get (homes_of p) j ≡ Some h → slice_get (homes_of p) k ≡ Some h → j ≡ k
homes_are_distinct p count order =
    one_place (homes_of p) (items_rise 0 1 p.layout.items (count_homes (program_statements p)) (counts_rise 1 count (program_statements p) order)).rise

-- so it is for each source's program
pub homes_of_sources_are_distinct : (p : Program) (g : Graph) → IsSourceGraph p g → (j k : ℕ) (h : Home) →
    slice_get (homes_of p) j ≡ Some h → slice_get (homes_of p) k ≡ Some h → j ≡ k
homes_of_sources_are_distinct p g source = homes_are_distinct p p.statements source.order

-- ---- tables

pub sources_have_no_tables : (p : Program) (g : Graph) → IsSourceGraph p g → (place : ℕ) → is_table p.layout place ≡ false
sources_have_no_tables p g source place = go (item_at p.layout place) refl
  where
    go : (o : Option Item) → item_at p.layout place ≡ o → option_map_or (λ i. not (i.stride == 0)) o false ≡ false
    go None e = refl
    go (Some i) e = ap not (eq-eqb i.stride 0 (source.tables place i e))
