-- What the fields of words in two parts mean.
use Rattle.std.specs.Prelude.{◌≡◌, ◌++◌, length}
use Rattle.std.specs.Borrow.{i128}
use Rattle.std.specs.Vec.Ownership.{FitsInBlock}
use Rattle.block_store.specs.Places.{somes}
use Rattle.block_store.specs.Ownership.{place_on}
use Rattle.block_store.specs.Slots.{IsFullOf}
use Rattle.block_store.specs.Parts.{Parts}
use Rattle.block_store.specs.declared.halves.Halves.TheInside.{Inside}

abbrev pub parts_in : Inside → Parts
parts_in h = record { low = somes h.low.slots; high = somes h.high.slots }

pub record IsHalved (h : Inside) : Type 0 where
  pub base : h.low.at ≡ h.base.ptr
  pub middle : h.high.at ≡ h.middle.ptr
  -- the high part begins where the low one ends
  pub beside : h.high.at ≡ place_on i128 (length h.low.slots) h.base.ptr
  pub low : IsFullOf h.low.slots (length (somes h.low.slots)) (somes h.low.slots)
  pub high : IsFullOf h.high.slots (length (somes h.high.slots)) (somes h.high.slots)
  pub count : length (h.low.slots ++ h.high.slots) ≡ h.len
  pub fits : FitsInBlock i128 h.len
  pub deed : h.deed.at ≡ h.base.ptr
  pub deed_len : h.deed.len ≡ h.len
  pub deed_alloc : h.deed.alloc ≡ h.alloc
