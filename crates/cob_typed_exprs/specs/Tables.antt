-- Tables of names: the last place of each name, and for each place the one before it of the same name.
use Rattle.std.specs.Prelude.{ℕ, zero, suc, ◌≡◌, ◌<◌, if◌then◌else◌, Bool, true, false, List, length, slice_get, Option, Some, None}
use Rattle.std.specs.Str.{bytes_eq}
use Rattle.std.specs.Borrow.{Bor}
use Rattle.indexmap.specs.IndexMap.{IndexMap, get_by}
use Rattle.cob_typed_exprs.specs.declared.table.Table.{Table}
use Rattle.cob_typed_exprs.specs.Names.{is_named}

-- the last of the first so many places that has the name
abbrev pub last_named : List ℕ → (ℕ → Option (List ℕ)) → ℕ → Option ℕ
last_named text names zero = None
last_named text names (suc n) = if is_named text (names n) then Some n else last_named text names n

-- what a map of texts has at a text
abbrev pub last_in : {S : Type 0} → IndexMap (Bor (List ℕ)) ℕ S → List ℕ → Option ℕ
last_in m text = get_by (λ k. bytes_eq text k.now) m

-- The table of so many places, whose names these are.
pub record IsTable (t : Table) (names : ℕ → Option (List ℕ)) (count : ℕ) : Type 0 where
  pub size : length t.earlier.items ≡ count
  pub latest : (text : List ℕ) → last_in t.last text ≡ last_named text names count
  pub before : (text : List ℕ) (place : ℕ) → place < count → is_named text (names place) ≡ true → slice_get t.earlier.items place ≡ Some (last_named text names place)
