-- What a name means: the items, condition-names, files and records of a layout that a reference names.
use Rattle.std.specs.Prelude.{ℕ, zero, suc, ◌≡◌, ◌==◌, ◌<◌, ◌&&◌, ◌+◌, if◌then◌else◌, Bool, true, false, List, [], ◌∷◌, ◌++◌, length, slice_get, Option, Some, None}
use Rattle.std.specs.Str.{bytes_eq}
use Rattle.cob_tree.specs.declared.operand.Ref.{Ref}
use Rattle.cob_data.specs.declared.layout.Item.{Item}
use Rattle.cob_data.specs.declared.layout.Flag.{Flag}
use Rattle.cob_data.specs.declared.layout.FileDecl.{FileDecl}
use Rattle.cob_data.specs.declared.layout.Layout.{Layout}
use Rattle.cob_typed_exprs.specs.declared.found.Found.{Found}
use Rattle.cob_typed_exprs.specs.declared.found.Found.TheVariants as found

abbrev pub is_named : List ℕ → Option (List ℕ) → Bool
is_named text None = false
is_named text (Some name) = bytes_eq text name

-- ---- what stands above an item

abbrev pub is_among : ℕ → List ℕ → Bool
is_among place [] = false
is_among place (p ∷ ps) = if place == p then true else is_among place ps

-- the name of the file that has this record
abbrev pub file_above : List FileDecl → ℕ → List (Option (List ℕ))
file_above [] place = []
file_above (f ∷ fs) place = if is_among place f.records then Some f.name ∷ [] else file_above fs place

abbrev pub item_name : Option Item → Option (List ℕ)
item_name None = None
item_name (Some i) = i.name

abbrev pub item_parent : Option Item → Option ℕ
item_parent None = None
item_parent (Some i) = i.parent

-- The names of the groups above, the nearest first, and that of the file last; at most so many groups, since there are
-- no more than items.
abbrev pub above_at : Layout → ℕ → ℕ → Option ℕ → List (Option (List ℕ))
above_at l zero place parent = []
above_at l (suc n) place None = file_above l.files place
above_at l (suc n) place (Some group) = item_name (slice_get l.items group) ∷ above_at l n group (item_parent (slice_get l.items group))

abbrev pub above : Layout → ℕ → List (Option (List ℕ))
above l place = above_at l (length l.items + 1) place (item_parent (slice_get l.items place))

-- ---- qualification (ISO 1989:1985, "Qualification")

-- each qualifier names one of those above, in order; some of them may be left out
abbrev pub qualifies : List (List ℕ) → List (Option (List ℕ)) → Bool
qualifies [] names = true
qualifies (q ∷ qs) [] = false
qualifies (q ∷ qs) (name ∷ names) = if is_named q name then qualifies qs names else qualifies (q ∷ qs) names

-- ---- what is named

abbrev pub names_item : Layout → Ref → ℕ → Bool
names_item l r place = is_named r.name (item_name (slice_get l.items place)) && qualifies r.of (above l place)

-- a condition-name stands below its item
abbrev pub names_flag : Layout → Ref → Flag → Bool
names_flag l r f = bytes_eq r.name f.name && qualifies r.of (item_name (slice_get l.items f.item) ∷ above l f.item)

abbrev pub is_record : List FileDecl → ℕ → Bool
is_record [] place = false
is_record (f ∷ fs) place = if is_among place f.records then true else is_record fs place

-- a record of a file
abbrev pub names_record : Layout → Ref → ℕ → Bool
names_record l r place = is_record l.files place && names_item l r place

-- ---- answers

-- Nothing of the kind has the name; one alone has it; two have it.
abbrev pub IsFound : (ℕ → Type 0) → Found → Type 0
IsFound Names found.Nothing = (place : ℕ) → Names place → ⊥
IsFound Names (found.One place) = Names place × ((other : ℕ) → Names other → other ≡ place)
IsFound Names found.Several = (first : ℕ) × (second : ℕ) × (first < second) × Names first × Names second

abbrev pub NamesItem : Layout → Ref → ℕ → Type 0
NamesItem l r place = (place < length l.items) × (names_item l r place ≡ true)

abbrev pub names_flag_at : Layout → Ref → Option Flag → Bool
names_flag_at l r None = false
names_flag_at l r (Some f) = names_flag l r f

abbrev pub NamesFlag : Layout → Ref → ℕ → Type 0
NamesFlag l r place = names_flag_at l r (slice_get l.flags place) ≡ true

abbrev pub names_file_at : List ℕ → Option FileDecl → Bool
names_file_at text None = false
names_file_at text (Some f) = bytes_eq text f.name

abbrev pub NamesFile : Layout → List ℕ → ℕ → Type 0
NamesFile l text place = names_file_at text (slice_get l.files place) ≡ true

abbrev pub NamesRecord : Layout → Ref → ℕ → Type 0
NamesRecord l r place = (place < length l.items) × (names_record l r place ≡ true)
