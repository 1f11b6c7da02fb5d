-- What blocks end as, once a `&mut` to one of them has ended.
use Rattle.std.specs.Prelude.{ℕ, List, [], ℤ, slice_set, Option, Some, None}
use Rattle.std.specs.List.{refill}
use Rattle.std.specs.Borrow.{Fml, MutBor, Array, Lends, i128}
use Rattle.block_store.specs.Held.{Held, block_at}
use Rattle.block_store.specs.contracts.blocks.Blocks.{the_row}

abbrev pub words_at : Option (List ℤ) → List ℤ
words_at (Some row) = row
words_at None = []

-- the block holds these words, cut or filled up to its size
abbrev pub with_block : Held → ℕ → List ℤ → Held
with_block h id ws = record { words = h.words; spare = h.spare; blocks = slice_set h.blocks id (Some (refill h.words (words_at (block_at h id)) ws)) }

abbrev pub lends_block : MutBor Held → ℕ → MutBor (List ℤ) → Fml
lends_block b id r = Lends the_row (Array i128 0) b r (with_block b.now id)
