-- What a region ends as, once a `&mut` to one of its rows has ended.
use Rattle.std.specs.Prelude.{ℕ, List, ℤ}
use Rattle.std.specs.List.{refill}
use Rattle.std.specs.Borrow.{Fml, MutBor, Array, Lends, i128}
use Rattle.block_store.specs.Grid.{Grid, row_at, with_row}
use Rattle.block_store.specs.contracts.region.Region.{the_row}

-- whatever is written there, cut or filled up to the width
abbrev pub rewritten_row : Grid → ℕ → List ℤ → List ℤ
rewritten_row g place ws = refill g.width (row_at g place) ws

abbrev pub lends_row : MutBor Grid → ℕ → MutBor (List ℤ) → Fml
lends_row g place r = Lends the_row (Array i128 0) g r (λ ws. with_row g.now place (rewritten_row g.now place ws))
