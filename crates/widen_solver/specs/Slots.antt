-- Slots that hold ids of blocks, each id once, while enough blocks are spare for the empty ones.
use Rattle.std.specs.Prelude.{◌≡◌, ℕ, suc, ◌≤◌, List, [], ◌∷◌, ℤ, map, get_or, Option, Some, None, IsSome}
use Rattle.block_store.specs.Held.{Held, block_at}
use Rattle.block_store.specs.BlocksLends.{words_at}

abbrev pub content : Held → ℕ → List ℤ
content h id = words_at (block_at h id)

abbrev pub slot_content : Held → Option ℕ → Option (List ℤ)
slot_content h None = None
slot_content h (Some id) = Some (content h id)

abbrev pub contents : Held → List (Option ℕ) → List (Option (List ℤ))
contents h slots = map (slot_content h) slots

-- how many slots are empty
abbrev pub empty_count : List (Option ℕ) → ℕ
empty_count [] = 0
empty_count (None ∷ slots) = suc (empty_count slots)
empty_count (Some id ∷ slots) = empty_count slots

pub record AreSlots (h : Held) (slots : List (Option ℕ)) : Type 0 where
  pub live : (k id : ℕ) → get_or slots k None ≡ Some id → IsSome (block_at h id)
  pub differ : (j k id : ℕ) → get_or slots j None ≡ Some id → get_or slots k None ≡ Some id → j ≡ k
  pub room : empty_count slots ≤ h.spare

-- the block that a node shows
abbrev pub id_shown : ℕ → Option ℕ → ℕ
id_shown bottom None = bottom
id_shown bottom (Some id) = id
