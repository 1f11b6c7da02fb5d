-- Paths through the places of a matrix, and its closure (Miné 2001). Here a matrix is a function of two
-- places, and a path between two places is the list of the places that it passes.
use Rattle.std.specs.Prelude.{◌≡◌, ℕ, ◌<◌, List, [], ◌∷◌, ℤ, pos, neg_ℤ, ◌+ℤ◌, ◌≤ℤ◌, int_lt, if◌then◌else◌}
use Rattle.std.specs.Int.{int_max}
use Rattle.diff_bounds.specs.Matrix.{none, largest, IsBound}

-- the sum of the words along the path
abbrev pub path_sum : (ℕ → ℕ → ℤ) → ℕ → List ℕ → ℕ → ℤ
path_sum w i [] j = w i j
path_sum w i (v ∷ between) j = w i v +ℤ path_sum w v between j

-- each word along the path is a number
abbrev pub AreBounds : (ℕ → ℕ → ℤ) → ℕ → List ℕ → ℕ → Type 0
AreBounds w i [] j = IsBound (w i j)
AreBounds w i (v ∷ between) j = IsBound (w i v) × AreBounds w v between j

abbrev pub AreBelow : ℕ → List ℕ → Type 0
AreBelow n [] = Unit {0}
AreBelow n (v ∷ between) = (v < n) × AreBelow n between

-- a path of numbers through places below n
pub record IsPath (n : ℕ) (w : ℕ → ℕ → ℤ) (i : ℕ) (between : List ℕ) (j : ℕ) : Type 0 where
  pub places : AreBelow n between
  pub bounds : AreBounds w i between j

pub record HasNoNegativeCycle (n : ℕ) (w : ℕ → ℕ → ℤ) : Type 0 where
  pub cycle : (i : ℕ) (between : List ℕ) → i < n → IsPath n w i between i → pos 0 ≤ℤ path_sum w i between i

-- a sum as a word: none above 10^37, and -10^37 below -10^37
abbrev pub cut_of : ℤ → ℤ
cut_of z = if int_lt largest z then none else int_max (neg_ℤ largest) z

-- The word is the cut of the least sum over all paths from i to j, and none where there is no path. The cut of
-- the least sum is the least of the cuts.
pub record IsLeastSum (n : ℕ) (w : ℕ → ℕ → ℤ) (i j : ℕ) (x : ℤ) : Type 0 where
  pub least : (between : List ℕ) → IsPath n w i between j → x ≤ℤ cut_of (path_sum w i between j)
  pub reached : IsBound x → (between : List ℕ) × IsPath n w i between j × (x ≡ cut_of (path_sum w i between j))

-- each word of the new matrix is the least sum over the old one
pub record IsClosure (n : ℕ) (old new : ℕ → ℕ → ℤ) : Type 0 where
  pub sums : (i j : ℕ) → i < n → j < n → IsLeastSum n old i j (new i j)
