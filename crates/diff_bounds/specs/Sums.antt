-- Sums on the way to a closure (Floyd 1962, Warshall 1962). They are kept whole, and the last number of 128
-- bits stands for no path, since sums within 8 * 10^37 add up to less than that.
use Rattle.std.specs.Prelude.{◌≡◌, ◌⊎◌, ℕ, ◌*◌, ◌^◌, ◌-◌, ◌<◌, List, ℤ, pos, neg_ℤ, ◌+ℤ◌, ◌≤ℤ◌, ◌<ℤ◌}
use Rattle.diff_bounds.specs.Matrix.{none, IsBound}
use Rattle.diff_bounds.specs.Paths.{path_sum, IsPath}

abbrev pub no_path : ℤ
no_path = pos (2 ^ 127 - 1)

abbrev pub IsSum : ℤ → Type 0
IsSum x = x <ℤ no_path

-- no path, or a sum of at most eight words
pub record IsShort (x : ℤ) : Type 0 where
  pub low : neg_ℤ (pos (8 * 10 ^ 37)) ≤ℤ x
  pub high : IsSum x → x ≤ℤ pos (8 * 10 ^ 37)
  pub top : x ≤ℤ no_path

-- the word with no_path for none
pub record IsSumOf (x z : ℤ) : Type 0 where
  pub number : IsBound x → z ≡ x
  pub absent : none ≤ℤ x → z ≡ no_path

-- the lesser of the best sum so far and the sum of two sums
pub record IsLesser (best first second x : ℤ) : Type 0 where
  pub kept : x ≤ℤ best
  pub lowered : IsSum first → IsSum second → x ≤ℤ (first +ℤ second)
  pub one : (x ≡ best) ⊎ (IsSum first × IsSum second × (x ≡ first +ℤ second))

-- each word may have gone through one more place
pub record IsThrough (n via : ℕ) (old new : ℕ → ℕ → ℤ) : Type 0 where
  pub words : (i j : ℕ) → i < n → j < n → IsLesser (old i j) (old i via) (old via j) (new i j)

-- The sums are least over the paths through the first k places: each is a path's, and none is more than a
-- word, or than two sums over one of these places.
pub record IsTight (n k : ℕ) (old new : ℕ → ℕ → ℤ) : Type 0 where
  pub diagonal : (i : ℕ) → i < n → new i i ≡ pos 0
  pub below : (i j : ℕ) → i < n → j < n → IsBound (old i j) → new i j ≤ℤ old i j
  pub joined : (v i j : ℕ) → v < k → i < n → j < n → IsSum (new i v) → IsSum (new v j) → IsSum (new i j)
  pub triangle : (v i j : ℕ) → v < k → i < n → j < n → IsSum (new i v) → IsSum (new v j) → new i j ≤ℤ (new i v +ℤ new v j)
  pub reached : (i j : ℕ) → i < n → j < n → IsSum (new i j) → (between : List ℕ) × IsPath k old i between j × (new i j ≡ path_sum old i between j)

pub record AreShort (n : ℕ) (w : ℕ → ℕ → ℤ) : Type 0 where
  pub short : (i j : ℕ) → i < n → j < n → IsShort (w i j)

-- a cycle whose sum is negative
pub record NegativeCycle (n : ℕ) (w : ℕ → ℕ → ℤ) : Type 0 where
  pub at : ℕ
  pub between : List ℕ
  pub within : at < n
  pub path : IsPath n w at between at
  pub negative : path_sum w at between at <ℤ pos 0

-- the round trip from a place through another one is negative
pub record IsNegativeTrip (w : ℕ → ℕ → ℤ) (i via : ℕ) : Type 0 where
  pub out : IsSum (w i via)
  pub back : IsSum (w via i)
  pub negative : (w i via +ℤ w via i) <ℤ pos 0
