-- What callers see of blocks: a finite map from the ids in use to lists of words, and how many blocks are spare.
use Rattle.std.specs.Prelude.{◌≡◌, ℕ, ◌+◌, List, ℤ, length, replicate, slice_set, get_or, Option, Some, None}

pub record Held : Type 0 where
  pub words : ℕ
  pub spare : ℕ
  -- by id; an id that isn't in use has none
  pub blocks : List (Option (List ℤ))

abbrev pub block_at : Held → ℕ → Option (List ℤ)
block_at h id = get_or h.blocks id None

-- no id is in use
abbrev pub Starts : ℕ → ℕ → Held → Type 0
Starts words count h = h ≡ record { words = words; spare = count; blocks = replicate count None }

-- the id wasn't in use, and is now, with some words
pub record Takes (old new : Held) (id : ℕ) : Type 0 where
  pub fresh : block_at old id ≡ None
  pub row : List ℤ
  pub width : length row ≡ old.words
  pub spare : old.spare ≡ new.spare + 1
  pub words : new.words ≡ old.words
  pub blocks : new.blocks ≡ slice_set old.blocks id (Some row)
  pub is : block_at new id ≡ Some row

-- the id is no longer in use
pub record Gives (old new : Held) (id : ℕ) : Type 0 where
  pub spare : new.spare ≡ old.spare + 1
  pub words : new.words ≡ old.words
  pub blocks : new.blocks ≡ slice_set old.blocks id None
