-- What the nodes' rows end as, once a `&mut` to one of them or to the transfer has ended.
use Rattle.std.specs.Prelude.{ℕ, List, ℤ, get_or, Some, None}
use Rattle.std.specs.List.{refill}
use Rattle.std.specs.Borrow.{Fml, MutBor, Array, Lends, i128}
use Rattle.block_store.specs.BlocksLends.{words_at}
use Rattle.widen_solver.specs.RowsHeld.{RowsHeld, with_own, with_transfer}
use Rattle.widen_solver.specs.contracts.node_rows.NodeRows.{the_row}

-- whatever is written there, cut or filled up to the number of words
abbrev pub own_rewritten : RowsHeld → ℕ → List ℤ → List ℤ
own_rewritten h index ws = refill h.words (words_at (get_or h.rows index None)) ws

abbrev pub transfer_rewritten : RowsHeld → List ℤ → List ℤ
transfer_rewritten h ws = refill h.words (words_at h.transfer) ws

abbrev pub lends_own : MutBor RowsHeld → ℕ → MutBor (List ℤ) → Fml
lends_own h index r = Lends the_row (Array i128 0) h r (λ ws. with_own h.now index (Some (own_rewritten h.now index ws)))

abbrev pub lends_transfer : MutBor RowsHeld → MutBor (List ℤ) → Fml
lends_transfer h r = Lends the_row (Array i128 0) h r (λ ws. with_transfer h.now (Some (transfer_rewritten h.now ws)))
