-- Subscripts leave the moment as it is.
use Rattle.std.proofs.Common.{◌≡◌, ℕ, Bool, true, false}
use Rattle.cob_data.specs.declared.layout.Layout.{Layout}
use Rattle.cob_edge_parts.specs.Meaning.{Moment, ReadsSubscript, Finds}

module _ (l : Layout) where
  pub subscript_leaves : (b : Bool) (item : ℕ) (m n : Moment) → ReadsSubscript l b item m n → n ≡ m
  subscript_leaves true item m n e = e
  subscript_leaves false item m n h = h.2

  pub index_leaves : (b : Bool) (item count : ℕ) (m n : Moment) → Finds l b item count m n → n ≡ m
  index_leaves true item count m n e = e
  index_leaves false item count m n h = h.4
