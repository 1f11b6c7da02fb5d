-- The files of records.
use Rattle.std.specs.Prelude.{ℕ, ◌≡◌, if◌then◌else◌, List, [], ◌∷◌, nat_eq, Option, Some, None}
use Rattle.std.specs.Option.{option_copied}
use Rattle.std.specs.Borrow.{Bor}
use Rattle.indexmap.specs.IndexMap.{IndexMap, get}
use Rattle.cob_data.specs.declared.layout.FileDecl.{FileDecl}
use Rattle.cob_typed_exprs.specs.Names.{is_among}

-- the name of the file that has this record, where there is one
abbrev pub home_of : List FileDecl → ℕ → Option (List ℕ)
home_of [] place = None
home_of (f ∷ fs) place = if is_among place f.records then Some f.name else home_of fs place

-- what a map of places has at a place
abbrev pub home_in : {S : Type 0} → IndexMap ℕ (Bor (List ℕ)) S → ℕ → Option (List ℕ)
home_in m place = option_copied (get nat_eq m place)

-- the map has each record of these files, with the name of the first file that has it
abbrev pub HasHomes : {S : Type 0} → IndexMap ℕ (Bor (List ℕ)) S → List FileDecl → Type 0
HasHomes m files = (place : ℕ) → home_in m place ≡ home_of files place

abbrev pub list_of : Option (List ℕ) → List (Option (List ℕ))
list_of None = []
list_of (Some text) = Some text ∷ []
