-- The numerals of a tree's VALUE clauses stand among its tokens.
use Rattle.std.proofs.Common.{ℕ, ◌+◌, List, [], ◌∷◌, ◌++◌, Option, Some, None, IfSome}
use Rattle.std.specs.List.{AllByRecursion}
use Rattle.cob_tree.specs.declared.operand.Const.{Const}
use Rattle.cob_tree.specs.declared.operand.Const.TheVariants as const
use Rattle.cob_tree.specs.declared.front.Front.{Front}
use Rattle.cob_tree.specs.declared.front.Data.{Data}
use Rattle.cob_tree.specs.declared.front.Fd.{Fd}
use Rattle.cob_tree.specs.declared.front.Entry.{Entry}
use Rattle.cob_tree.specs.declared.front.Clause.{Clause}
use Rattle.cob_tree.specs.declared.front.Clause.TheVariants as clause
use Rattle.cob_tree.specs.declared.front.Range.{Range}
use Rattle.cob_tree.specs.declared.keyword.Keyword.TheVariants as word
use Rattle.cob_tree.specs.Items.{Item, stop, behind, each}
use Rattle.cob_tree.specs.PrintExpr.{print_const}
use Rattle.cob_tree.specs.PrintFront.{heading, print_name_and_stop, print_if, print_env, print_fd_clause, print_range, print_clause, print_described, print_entry, print_fd, print_files, print_storage, print_data, print_front}
use Rattle.cob_data.specs.declared.description.Area.{Area}
use Rattle.cob_data.specs.declared.description.Area.TheVariants as area
use Rattle.cob_data.specs.Entries.{Placed, list_if, fds_in, entries_in, placed, file_entries, all_entries}
use Rattle.cob_store.specs.WellFormed.{IsShortLiteral}
use Rattle.cob_well_formed.specs.Numerals.{IsShortItem, AreShort}

-- ---- lists one behind the other

pub all_left : {X : Type 0} (P : X → Type 0) (xs ys : List X) → AllByRecursion P (xs ++ ys) → AllByRecursion P xs
all_left P [] ys p = tt
all_left P (x ∷ xs) ys p = (p.0, all_left P xs ys p.1)

pub all_right : {X : Type 0} (P : X → Type 0) (xs ys : List X) → AllByRecursion P (xs ++ ys) → AllByRecursion P ys
all_right P [] ys p = p
all_right P (x ∷ xs) ys p = all_right P xs ys p.1

pub all_append : {X : Type 0} (P : X → Type 0) (xs ys : List X) → AllByRecursion P xs → AllByRecursion P ys →
    AllByRecursion P (xs ++ ys)
all_append P [] ys p q = q
all_append P (x ∷ xs) ys p q = (p.0, all_append P xs ys p.1 q)

pub short_left : (xs ys : List Item) → AreShort (xs ++ ys) → AreShort xs
short_left xs ys short = all_left IsShortItem xs ys short

pub short_right : (xs ys : List Item) → AreShort (xs ++ ys) → AreShort ys
short_right xs ys short = all_right IsShortItem xs ys short

-- ---- what is short

abbrev pub IsShortConst : Const → Type 0
IsShortConst (const.Number n) = IsShortLiteral n
IsShortConst _ = Unit {0}

pub record IsShortRange (r : Range) : Type 0 where
  pub low : IsShortConst r.low
  pub high : IfSome r.high IsShortConst

abbrev pub IsShortClause : Clause → Type 0
IsShortClause (clause.Value ranges) = AllByRecursion IsShortRange ranges
IsShortClause _ = Unit {0}

abbrev pub IsShortEntry : Entry → Type 0
IsShortEntry e = AllByRecursion IsShortClause e.clauses

abbrev pub IsShortPlaced : Placed → Type 0
IsShortPlaced p = IsShortEntry p.entry

pub short_const : (d : ℕ) (c : Const) → AreShort (print_const d c) → IsShortConst c
short_const d (const.Number n) short = short.0
short_const d (const.Text text) short = tt
short_const d const.Zero short = tt
short_const d const.Space short = tt
short_const d const.Quote short = tt
short_const d const.HighValue short = tt
short_const d const.LowValue short = tt

-- ---- clauses and entries

short_range : (r : Range) → AreShort (print_range r) → IsShortRange r
short_range r short = record {
  low = short_const 0 r.low (short_left (print_const 0 r.low) (behind 0 (word.Thru ∷ []) (print_const 0) r.high) short);
  high = at r.high (short_right (print_const 0 r.low) (behind 0 (word.Thru ∷ []) (print_const 0) r.high) short);
} where
  at : (o : Option Const) → AreShort (behind 0 (word.Thru ∷ []) (print_const 0) o) → IfSome o IsShortConst
  at None short = tt
  at (Some c) short = short_const 0 c short.1

short_ranges : (rs : List Range) → AreShort (each print_range rs) → AllByRecursion IsShortRange rs
short_ranges [] short = tt
short_ranges (r ∷ rs) short =
    (short_range r (short_left (print_range r) (each print_range rs) short), short_ranges rs (short_right (print_range r) (each print_range rs) short))

short_clause : (c : Clause) → AreShort (print_clause c) → IsShortClause c
short_clause (clause.Value ranges) short = short_ranges ranges short.1
short_clause (clause.Pic text) short = tt
short_clause (clause.Redefines text) short = tt
short_clause clause.Display short = tt
short_clause clause.Binary short = tt
short_clause clause.PackedDecimal short = tt
short_clause clause.LeadingSeparate short = tt
short_clause clause.TrailingSeparate short = tt

short_clauses : (cs : List Clause) → AreShort (each print_clause cs) → AllByRecursion IsShortClause cs
short_clauses [] short = tt
short_clauses (c ∷ cs) short =
    (short_clause c (short_left (print_clause c) (each print_clause cs) short), short_clauses cs (short_right (print_clause c) (each print_clause cs) short))

short_entry : (e : Entry) → AreShort (print_entry e) → IsShortEntry e
short_entry e short =
    short_clauses e.clauses (short_left (each print_clause e.clauses) (stop 0 ∷ [])
    (short_right (print_if print_described e.name) (each print_clause e.clauses ++ stop 0 ∷ []) short.1))

short_entries : (here : Area) (es : List Entry) → AreShort (each print_entry es) →
    AllByRecursion IsShortPlaced (placed here es)
short_entries here [] short = tt
short_entries here (e ∷ es) short =
    (short_entry e (short_left (print_entry e) (each print_entry es) short), short_entries here es (short_right (print_entry e) (each print_entry es) short))

-- ---- files and storage

short_files : (n : ℕ) (fs : List Fd) → AreShort (each print_fd fs) → AllByRecursion IsShortPlaced (file_entries n fs)
short_files n [] short = tt
short_files n (f ∷ fs) short =
    let here = short_left (print_fd f) (each print_fd fs) short in
    let entries = short_right (each print_fd_clause f.clauses) (stop 0 ∷ each print_entry f.entries) here.1.1 in
    all_append IsShortPlaced (placed (area.File n) f.entries) (file_entries (n + 1) fs) (short_entries (area.File n) f.entries entries.1)
    (short_files (n + 1) fs (short_right (print_fd f) (each print_fd fs) short))

short_file_section : (o : Option (List Fd)) → AreShort (print_if print_files o) →
    AllByRecursion IsShortPlaced (file_entries 0 (list_if o))
short_file_section None short = tt
short_file_section (Some fs) short =
    short_files 0 fs (short_right (heading (word.File ∷ word.Section ∷ [])) (each print_fd fs) short)

short_storage : (o : Option (List Entry)) → AreShort (print_if print_storage o) →
    AllByRecursion IsShortPlaced (placed area.Storage (list_if o))
short_storage None short = tt
short_storage (Some es) short =
    short_entries area.Storage es (short_right (heading (word.WorkingStorage ∷ word.Section ∷ [])) (each print_entry es) short)

short_data : (o : Option Data) → AreShort (print_if print_data o) →
    AllByRecursion IsShortPlaced (file_entries 0 (fds_in o) ++ placed area.Storage (entries_in o))
short_data None short = tt
short_data (Some d) short =
    let both = short_right (heading (word.Data ∷ word.Division ∷ [])) (print_if print_files d.files ++ print_if print_storage d.storage) short in
    all_append IsShortPlaced (file_entries 0 (list_if d.files)) (placed area.Storage (list_if d.storage))
    (short_file_section d.files (short_left (print_if print_files d.files) (print_if print_storage d.storage) both))
    (short_storage d.storage (short_right (print_if print_files d.files) (print_if print_storage d.storage) both))

pub short_values : (f : Front) → AreShort (print_front f) → AllByRecursion IsShortPlaced (all_entries f)
short_values f short =
    let data_ = print_if print_data f.data in
    let env = print_if print_env f.env in
    let first = heading (word.Identification ∷ word.Division ∷ []) in
    let second = heading (word.ProgramId ∷ []) in
    let third = print_name_and_stop f.name in
    short_data f.data (short_right env data_ (short_right third (env ++ data_) (short_right second (third ++ (env ++ data_)) (short_right first (second ++ (third ++ (env ++ data_))) short))))
