-- Items that share bytes.
use Rattle.std.specs.Prelude.{◌<◌, ◌≤◌, ◌+◌, ℕ}
use Rattle.cob_data.specs.declared.layout.Item.{Item}
use Rattle.cob_data.specs.Extents.{start_of}
use Rattle.cob_data.specs.Occurrences.{extent_of}

-- a byte of an item's occurrence
pub record IsByteOf (i : Item) (n k : ℕ) : Type 0 where
  pub there : n < i.times
  pub from : start_of (extent_of i) n ≤ k
  pub to : k < start_of (extent_of i) n + i.length

-- some byte lies in an occurrence of each
abbrev pub Meet : Item → Item → Type 0
Meet a b = (m : ℕ) × (n : ℕ) × (k : ℕ) × IsByteOf a m k × IsByteOf b n k
