-- Which ranges perform which, by the places of their calls, and the search for them.
use Rattle.std.specs.Prelude.{◌≡◌, ◌<◌, ◌≤◌, ◌⊎◌, ◌+◌, ℕ, zero, suc, Bool, true, false, ◌&&◌, ◌||◌, nat_le, List, [], ◌∷◌, ◌++◌, length, set, slice_index_or, if◌then◌else◌, Option, Some, None}
use Rattle.std.specs.List.{sum_by}
use Rattle.cob_graph.specs.Nesting.{Span, Call}
use Rattle.cob_graph.specs.declared.reach.Hull.{Hull}

abbrev pub is_in : ℕ → Span → Bool
is_in para s = nat_le s.first para && nat_le para s.last

abbrev pub blank : Call
blank = record { line = 0; para = 0; span = record { first = 0; last = 0 } }

abbrev pub call_at : List Call → ℕ → Call
call_at cs i = slice_index_or cs i blank

-- whether a range has the call at j
abbrev pub has_within : List Call → Span → ℕ → Bool
has_within cs s j = is_in (call_at cs j).para s

-- the range of the call at i has the call at j
abbrev pub has_call : List Call → ℕ → ℕ → Bool
has_call cs i j = has_within cs (call_at cs i).span j

-- it has it, or performs ranges of calls before the k-th of which the last has it
abbrev pub through : List Call → ℕ → ℕ → ℕ → Bool
through cs zero i j = has_call cs i j
through cs (suc k) i j = through cs k i j || (through cs k i k && through cs k k j)

-- ---- a row of marks: those that are reached from a call

abbrev pub is_marked : List Bool → ℕ → Bool
is_marked marks j = slice_index_or marks j false

pub record IsRow (cs : List Call) (start : ℕ) (row : List Bool) : Type 0 where
  pub wide : length row ≡ length cs
  pub marks : (j : ℕ) → j < length cs → is_marked row j ≡ through cs (length cs) start j

-- rows of some of the first calls
abbrev pub AreRows : List Call → List (Option (List Bool)) → Type 0
AreRows cs rows = (i : ℕ) (row : List Bool) → slice_index_or rows i None ≡ Some row → IsRow cs i row

-- ---- where the calls of a range stand

-- from a place up to, but not including, another
pub record IsHull (cs : List Call) (s : Span) (hull : Hull) : Type 0 where
  pub within : hull.end ≤ length cs
  pub has : (j : ℕ) → j < length cs → has_within cs s j ≡ true → (hull.from ≤ j) × (j < hull.end)

-- one for the range of each call
pub record AreHulls (cs : List Call) (hulls : List Hull) : Type 0 where
  pub count : length hulls ≡ length cs
  pub each : (i : ℕ) (d : Hull) → i < length cs → IsHull cs (call_at cs i).span (slice_index_or hulls i d)

-- ---- the search: the marks, and the places whose ranges are to be looked at, in the order in which they were found

-- all paragraphs of a range are in another
abbrev pub is_part : Span → Span → Bool
is_part s t = nat_le t.first s.first && nat_le s.last t.last

-- a place is marked, and stands last where it wasn't marked before and its range is to be looked at
pub record IsNoted (place : ℕ) (is_done : Bool) (marks : List Bool) (found : List ℕ) (more : List Bool) (all : List ℕ) : Type 0 where
  pub marks_are : more ≡ (if is_marked marks place then marks else set marks place true)
  pub found_are : all ≡ (if is_marked marks place then found else if is_done then found else found ++ place ∷ [])

abbrev pub unmarked : Bool → ℕ
unmarked true = 0
unmarked false = 1

-- all marked ones are reached, and so are those that are to be looked at, which are no more than are marked
pub record IsSearch (cs : List Call) (start : ℕ) (marks : List Bool) (found : List ℕ) : Type 0 where
  pub wide : length marks ≡ length cs
  pub reached : (j : ℕ) → j < length cs → is_marked marks j ≡ true → through cs (length cs) start j ≡ true
  pub marked : (i : ℕ) → i < length found → (slice_index_or found i 0 < length cs) × (is_marked marks (slice_index_or found i 0) ≡ true)
  pub room : sum_by unmarked marks + length found ≤ length cs

-- each call that a range has is reached from the start
pub record IsReached (cs : List Call) (start : ℕ) (s : Span) : Type 0 where
  pub calls : (j : ℕ) → j < length cs → has_within cs s j ≡ true → through cs (length cs) start j ≡ true

abbrev pub IsListed : List ℕ → ℕ → Type 0
IsListed found j = (i : ℕ) × (i < length found) × (slice_index_or found i 0 ≡ j)

-- the calls of a range that stand from a place up to, but not including, another are marked as well, and those of them
-- whose range isn't part of it are to be looked at
pub record IsLooked (cs : List Call) (s : Span) (from end : ℕ) (marks : List Bool) (found : List ℕ) (more : List Bool) (all : List ℕ) : Type 0 where
  pub wide : length more ≡ length marks
  pub search : (start : ℕ) → IsReached cs start s → IsSearch cs start marks found → IsSearch cs start more all
  pub kept : (j : ℕ) → is_marked marks j ≡ true → is_marked more j ≡ true
  pub longer : length found ≤ length all
  pub order : (i : ℕ) → i < length found → slice_index_or all i 0 ≡ slice_index_or found i 0
  pub met : (j : ℕ) → from ≤ j → j < end → has_within cs s j ≡ true → is_marked more j ≡ true
  pub listed : (j : ℕ) → is_marked more j ≡ true → (is_marked marks j ≡ true) ⊎ (IsListed all j ⊎ (is_part (call_at cs j).span s ≡ true))

-- the calls in the range of the one at a place are marked so
abbrev pub IsLookedAt : List Call → ℕ → List Bool → List ℕ → List Bool → List ℕ → Type 0
IsLookedAt cs place marks found more all =
    (hull : Hull) × IsHull cs (call_at cs place).span hull × IsLooked cs (call_at cs place).span hull.from hull.end marks found more all

-- a range has no other calls than those that are marked
abbrev pub IsClosed : List Call → List Bool → ℕ → Type 0
IsClosed cs marks i = (j : ℕ) → j < length cs → has_call cs i j ≡ true → is_marked marks j ≡ true

-- what a row has at places below another is marked as well
pub record AreTaken (row : List Bool) (at : ℕ) (marks more : List Bool) : Type 0 where
  pub wide : length more ≡ length marks
  pub fewer : sum_by unmarked more ≤ sum_by unmarked marks
  pub kept : (j : ℕ) → is_marked marks j ≡ true → is_marked more j ≡ true
  pub met : (j : ℕ) → j < at → is_marked row j ≡ true → is_marked more j ≡ true
  pub said : (j : ℕ) → is_marked more j ≡ true → (is_marked marks j ≡ true) ⊎ (is_marked row j ≡ true)

-- the calls in the range of one that is reached are marked, and of those that are marked with them each is listed, or its
-- range has no others
pub record IsFollowed (cs : List Call) (place : ℕ) (marks : List Bool) (found : List ℕ) (more : List Bool) (all : List ℕ) : Type 0 where
  pub search : (start : ℕ) → through cs (length cs) start place ≡ true → IsSearch cs start marks found → IsSearch cs start more all
  pub kept : (j : ℕ) → is_marked marks j ≡ true → is_marked more j ≡ true
  pub longer : length found ≤ length all
  pub order : (i : ℕ) → i < length found → slice_index_or all i 0 ≡ slice_index_or found i 0
  pub closed : IsClosed cs more place
  pub listed : (j : ℕ) → j < length cs → is_marked more j ≡ true → (is_marked marks j ≡ true) ⊎ (IsListed all j ⊎ IsClosed cs more j)

-- those of the start and of the first that were to be looked at haven't, nor those of marked ones that aren't to be looked at
pub record IsSearchTo (cs : List Call) (start next : ℕ) (marks : List Bool) (found : List ℕ) : Type 0 where
  pub search : IsSearch cs start marks found
  pub first : IsClosed cs marks start
  pub later : (i : ℕ) → i < next → i < length found → IsClosed cs marks (slice_index_or found i 0)
  pub listed : (j : ℕ) → j < length cs → is_marked marks j ≡ true → IsListed found j ⊎ IsClosed cs marks j
