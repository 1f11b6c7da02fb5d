-- What words in two parts end as, once a `&mut` into one part has ended.
use Rattle.std.specs.Prelude.{ℕ, List, ℤ}
use Rattle.std.specs.List.{refill}
use Rattle.std.specs.Borrow.{Fml, MutBor, Array, Lends, i128}
use Rattle.block_store.specs.Words.{run_at, with_run}
use Rattle.block_store.specs.Parts.{Parts}
use Rattle.block_store.specs.contracts.halves.Halves.{the_row}

-- whatever is written there, cut or filled up to the run's length
abbrev pub rewritten : List ℤ → ℕ → ℕ → List ℤ → List ℤ
rewritten words at count ws = with_run words at count (refill count (run_at words at count) ws)

abbrev pub lends_low : MutBor Parts → ℕ → ℕ → MutBor (List ℤ) → Fml
lends_low h at count r = Lends the_row (Array i128 0) h r (λ ws. record { low = rewritten h.now.low at count ws; high = h.now.high })

abbrev pub lends_high : MutBor Parts → ℕ → ℕ → MutBor (List ℤ) → Fml
lends_high h at count r = Lends the_row (Array i128 0) h r (λ ws. record { low = h.now.low; high = rewritten h.now.high at count ws })
