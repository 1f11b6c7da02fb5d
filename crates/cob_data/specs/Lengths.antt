-- Items below items, and how many bytes each of them has.
use Rattle.std.specs.Prelude.{ℕ, ◌+◌, nat_lt, ◌==◌, Bool, if◌then◌else◌, is_some, List, [], ◌∷◌}
use Rattle.cob_data.specs.declared.description.Description.{Description}

-- ---- items below items

-- Items side by side, each with those below it: nothing, or an item, what is below it, and what stands beside it,
-- behind it.
pub data Forest : Type 0 where
  bare : Forest
  item : Description → Forest → Forest → Forest

-- how deep a level is: 77 begins a record, as 01 does
abbrev pub depth : Description → ℕ
depth d = if d.level == 77 then 1 else d.level

abbrev pub is_deeper : ℕ → Description → Bool
is_deeper n d = nat_lt n (depth d)

-- the items at the beginning that are deeper
abbrev pub deeper : ℕ → Forest → Forest
deeper n bare = bare
deeper n (item d below beside) = if is_deeper n d then item d below (deeper n beside) else bare

-- the items behind those
abbrev pub behind : ℕ → Forest → Forest
behind n bare = bare
behind n (item d below beside) = if is_deeper n d then behind n beside else item d below beside

-- An item has below it all that follows and is deeper, up to the first that isn't. So the group directly above an
-- item is the nearest earlier one of a lower level, and items side by side may have unequal levels.
abbrev pub forest : List Description → Forest
forest [] = bare
forest (d ∷ ds) = item d (deeper (depth d) (forest ds)) (behind (depth d) (forest ds))

abbrev pub size : Forest → ℕ
size bare = 0
size (item d below beside) = size below + 1 + size beside

-- the bytes of an item: those of its parts, where it has parts
abbrev pub bytes_with : Description → Forest → ℕ → ℕ
bytes_with d bare parts = d.bytes
bytes_with d (item _ _ _) parts = parts

abbrev pub unless_redefining : Description → ℕ → ℕ
unless_redefining d bytes = if is_some d.redefines then 0 else bytes

-- all bytes of items side by side; a redefinition adds none
abbrev pub extent : Forest → ℕ
extent bare = 0
extent (item d below beside) = unless_redefining d (bytes_with d below (extent below)) + extent beside

-- a group is as long as its parts
abbrev pub item_bytes : Description → Forest → ℕ
item_bytes d below = bytes_with d below (extent below)
