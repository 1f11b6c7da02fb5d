-- Groups and their parts, as the places of all items show them.
use Rattle.std.specs.Prelude.{◌≡◌, ℕ, ◌+◌, Bool, true, false, ◌==◌, if◌then◌else◌, is_some, List, [], ◌∷◌, ◌++◌, slice_get, Option, Some, None, IfSome}
use Rattle.cob_data.specs.declared.description.Description.{Description}
use Rattle.cob_data.specs.declared.description.Spot.{Spot}
use Rattle.cob_data.specs.Lengths.{unless_redefining}
use Rattle.cob_data.specs.declared.end.Rule.TheVariants.{L6}
use Rattle.cob_data.specs.Rules.{item_lines}

-- an item directly below that of this place
abbrev pub is_at : ℕ → Option ℕ → Bool
is_at place None = false
is_at place (Some parent) = parent == place

abbrev pub is_part : ℕ → Spot → Bool
is_part place s = is_at place s.parent

-- all bytes of the parts of the item of this place, but for those that redefine
abbrev pub part_bytes : ℕ → List Description → List Spot → ℕ
part_bytes place [] ss = 0
part_bytes place (d ∷ ds) [] = 0
part_bytes place (d ∷ ds) (s ∷ ss) = (if is_part place s then unless_redefining d s.length else 0) + part_bytes place ds ss

-- The start of the last of an item's parts.
abbrev pub last_start : ℕ → ℕ → List Spot → ℕ
last_start place none [] = none
last_start place none (s ∷ ss) = last_start place (if is_part place s then s.start else none) ss

-- Each group from this place on is as long as its parts, which stand behind it.
abbrev pub AreAsLongAsParts : ℕ → List Description → List Spot → Type 0
AreAsLongAsParts place [] [] = Unit {0}
AreAsLongAsParts place [] (s ∷ ss) = ⊥
AreAsLongAsParts place (d ∷ ds) [] = ⊥
AreAsLongAsParts place (d ∷ ds) (s ∷ ss) = (s.group ≡ true → s.length ≡ part_bytes place ds ss) × AreAsLongAsParts (place + 1) ds ss

-- In a group, an item starts where all parts before it end, and a redefinition where the part before it starts: that
-- is what it redefines, or another redefinition of this.
abbrev pub start_in : Spot → ℕ → List Description → List Spot → Description → ℕ
start_in group place ds ss d = if is_some d.redefines then last_start place group.start ss else group.start + part_bytes place ds ss

-- The item starts so, where it stands in a group and these items stand before it.
abbrev pub StartsBehind : List Description → List Spot → Description → Spot → Type 0
StartsBehind ds ss d s = IfSome s.parent (λ place. (group : Spot) × (slice_get ss place ≡ Some group) × (s.start ≡ start_in group place ds ss d))

-- each item starts where it should
abbrev pub AreBehind : List Description → List Spot → List Description → List Spot → Type 0
AreBehind ds ss [] [] = Unit {0}
AreBehind ds ss [] (s ∷ more) = ⊥
AreBehind ds ss (d ∷ later) [] = ⊥
AreBehind ds ss (d ∷ later) (s ∷ more) = StartsBehind ds ss d s × AreBehind (ds ++ d ∷ []) (ss ++ s ∷ []) later more

-- what the rule on redefinitions asks of each item
abbrev pub MayRedefine : List Description → List Spot → Type 0
MayRedefine ds ss = item_lines L6 ds ss ≡ []
