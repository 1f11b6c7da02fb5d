-- What the fields of blocks mean.
use Rattle.std.specs.Prelude.{◌≡◌, ℕ, ◌^◌, ◌<◌, ◌≤◌, List, [], ℤ, pos, true, cond, map, length, get_or, Option, Some, None}
use Rattle.std.specs.List.{range_with_len}
use Rattle.block_store.specs.Grid.{HasRows}
use Rattle.block_store.specs.Held.{Held}
use Rattle.block_store.specs.Chain.{chain, has_id, Differ, first_word, next_of}
use Rattle.block_store.specs.declared.blocks.Blocks.TheInside.{Inside}

-- what a place holds for callers
abbrev pub block_in : List (List ℤ) → List ℕ → ℕ → Option (List ℤ)
block_in rows free id = cond (has_id free id) None (Some (get_or rows id []))

abbrev pub blocks_in : List (List ℤ) → List ℕ → List (Option (List ℤ))
blocks_in rows free = map (block_in rows free) (range_with_len 0 (length rows))

abbrev pub free_in : Inside → List ℕ
free_in b = chain b.region.rows b.spare b.free

abbrev pub held_in : Inside → Held
held_in b = record { words = b.region.width; spare = b.spare; blocks = blocks_in b.region.rows (free_in b) }

-- the free blocks are blocks, each once, and hold places
pub record IsChain (rows : List (List ℤ)) (free : List ℕ) : Type 0 where
  pub within : (id : ℕ) → has_id free id ≡ true → id < length rows
  pub places : (id : ℕ) → has_id free id ≡ true → (first_word rows id ≡ pos (next_of rows id)) × (next_of rows id ≤ length rows)
  pub differ : Differ free

pub record AreBlocks (b : Inside) : Type 0 where
  pub some : 1 ≤ b.region.width
  pub rows : HasRows b.region.width (length b.region.rows) b.region
  pub limit : length b.region.rows ≤ 2 ^ 32
  pub first : b.free ≤ length b.region.rows
  pub free : IsChain b.region.rows (free_in b)
