-- The chain of the free blocks: the first word of each holds the place of the next.
use Rattle.std.specs.Prelude.{◌≡◌, ℕ, zero, suc, ◌+◌, ◌<◌, List, [], ◌∷◌, ℤ, pos, Bool, false, nat_eq, get_or}
use Rattle.std.specs.List.{list_any}

-- the place that a word holds
abbrev pub place_in : ℤ → ℕ
place_in (pos n) = n
place_in z = 0

abbrev pub first_word : List (List ℤ) → ℕ → ℤ
first_word rows id = get_or (get_or rows id []) 0 (pos 0)

abbrev pub next_of : List (List ℤ) → ℕ → ℕ
next_of rows id = place_in (first_word rows id)

-- so many free blocks, from a first one on
abbrev pub chain : List (List ℤ) → ℕ → ℕ → List ℕ
chain rows zero head = []
chain rows (suc n) head = head ∷ chain rows n (next_of rows head)

abbrev pub has_id : List ℕ → ℕ → Bool
has_id ids id = list_any (nat_eq id) ids

-- no id twice
abbrev pub Differ : List ℕ → Type 0
Differ [] = Unit {0}
Differ (x ∷ xs) = (has_id xs x ≡ false) × Differ xs

-- each block's first word holds the place behind it
abbrev pub IsLinked : List (List ℤ) → ℕ → Type 0
IsLinked rows count = (id : ℕ) → id < count → first_word rows id ≡ pos (id + 1)
