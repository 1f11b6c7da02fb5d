-- The four kinds of things that have names, in one form: a name, and what is asked of a place beside it.
use Rattle.std.specs.Prelude.{ℕ, ◌≡◌, ◌&&◌, ◌+◌, ◌<◌, ◌≤◌, ◌^◌, if◌then◌else◌, Bool, true, false, List, [], ◌∷◌, length, slice_get, Option, Some, None}
use Rattle.std.specs.Borrow.{Bor}
use Rattle.indexmap.specs.IndexMap.{IndexMap}
use Rattle.cob_data.specs.declared.layout.Flag.{Flag}
use Rattle.cob_data.specs.declared.layout.FileDecl.{FileDecl}
use Rattle.cob_data.specs.declared.layout.Layout.{Layout}
use Rattle.cob_typed_exprs.specs.declared.found.Found.{Found}
use Rattle.cob_typed_exprs.specs.declared.found.Found.TheVariants as found
use Rattle.cob_typed_exprs.specs.declared.kind.Kind.{Kind}
use Rattle.cob_typed_exprs.specs.declared.kind.Kind.TheVariants as kind
use Rattle.cob_typed_exprs.specs.declared.table.Table.{Table}
use Rattle.cob_typed_exprs.specs.Names.{is_named, item_name, above, qualifies, is_record}
use Rattle.cob_typed_exprs.specs.Tables.{IsTable}
use Rattle.cob_typed_exprs.specs.Homes.{HasHomes}

-- ---- names by place

abbrev pub flag_name : Option Flag → Option (List ℕ)
flag_name None = None
flag_name (Some f) = Some f.name

abbrev pub file_name : Option FileDecl → Option (List ℕ)
file_name None = None
file_name (Some f) = Some f.name

abbrev pub name_in : Layout → Kind → ℕ → Option (List ℕ)
name_in l kind.Item place = item_name (slice_get l.items place)
name_in l kind.Record place = item_name (slice_get l.items place)
name_in l kind.Flag place = flag_name (slice_get l.flags place)
name_in l kind.File place = file_name (slice_get l.files place)

abbrev pub count_in : Layout → Kind → ℕ
count_in l kind.Item = length l.items
count_in l kind.Record = length l.items
count_in l kind.Flag = length l.flags
count_in l kind.File = length l.files

-- ---- what else is asked

abbrev pub flag_fits : Layout → List (List ℕ) → Option Flag → Bool
flag_fits l of None = false
flag_fits l of (Some f) = qualifies of (item_name (slice_get l.items f.item) ∷ above l f.item)

abbrev pub fits : Layout → Kind → List (List ℕ) → ℕ → Bool
fits l kind.Item of place = qualifies of (above l place)
fits l kind.Record of place = is_record l.files place && qualifies of (above l place)
fits l kind.Flag of place = flag_fits l of (slice_get l.flags place)
fits l kind.File of place = true

abbrev pub NamesIn : Layout → Kind → List ℕ → List (List ℕ) → ℕ → Type 0
NamesIn l kind text of place = (is_named text (name_in l kind place) ≡ true) × (fits l kind of place ≡ true)

-- ---- tables

-- each place is a number of 32 bits
pub record HasFewPlaces (l : Layout) : Type 0 where
  pub items : length l.items ≤ 2 ^ 32
  pub flags : length l.flags ≤ 2 ^ 32
  pub files : length l.files ≤ 2 ^ 32

-- the tables of a layout, and the files of its records
pub record AreNames {S : Type 0} (l : Layout) (items flags files : Table) (homes : IndexMap ℕ (Bor (List ℕ)) S) : Type 0 where
  pub few : HasFewPlaces l
  pub items_are : IsTable items (name_in l kind.Item) (length l.items)
  pub flags_are : IsTable flags (name_in l kind.Flag) (length l.flags)
  pub files_are : IsTable files (name_in l kind.File) (length l.files)
  pub homes_are : HasHomes homes l.files

-- ---- a walk from the last place of a name to the first

-- the number of places that are not yet looked at
abbrev pub bound : Option ℕ → ℕ
bound None = 0
bound (Some place) = place + 1

-- a place of the name is next, or none
abbrev pub IsPlace : List ℕ → (ℕ → Option (List ℕ)) → ℕ → Option ℕ → Type 0
IsPlace text names count None = Unit {0}
IsPlace text names count (Some place) = (place < count) × (is_named text (names place) ≡ true)

-- what is found from a place on
abbrev pub IsFoundFrom : (ℕ → Type 0) → ℕ → Found → Type 0
IsFoundFrom Names from found.Nothing = (place : ℕ) → from ≤ place → Names place → ⊥
IsFoundFrom Names from (found.One place) = (from ≤ place) × Names place × ((other : ℕ) → from ≤ other → Names other → other ≡ place)
IsFoundFrom Names from found.Several = (first : ℕ) × (second : ℕ) × (from ≤ first) × (first < second) × Names first × Names second

-- what is found with one more place
abbrev pub found_and : Found → ℕ → Found
found_and found.Nothing place = found.One place
found_and (found.One other) place = found.Several
found_and found.Several place = found.Several

-- ---- a walk from an item up

-- the qualifiers that are left behind a group
abbrev pub left_behind : List (List ℕ) → Option (List ℕ) → List (List ℕ)
left_behind [] name = []
left_behind (q ∷ qs) name = if is_named q name then qs else q ∷ qs
