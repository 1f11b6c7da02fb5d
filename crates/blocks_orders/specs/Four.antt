-- Four blocks in use.
use Rattle.std.specs.Prelude.{◌≢◌, ℕ, IsSome}
use Rattle.block_store.specs.Held.{Held, block_at}

-- each is in use, and no two are the same
pub record AreFour (h : Held) (a b c d : ℕ) : Type 0 where
  pub live_a : IsSome (block_at h a)
  pub live_b : IsSome (block_at h b)
  pub live_c : IsSome (block_at h c)
  pub live_d : IsSome (block_at h d)
  pub ab : a ≢ b
  pub ac : a ≢ c
  pub ad : a ≢ d
  pub ba : b ≢ a
  pub bc : b ≢ c
  pub bd : b ≢ d
  pub ca : c ≢ a
  pub cb : c ≢ b
  pub cd : c ≢ d
  pub da : d ≢ a
  pub db : d ≢ b
  pub dc : d ≢ c
