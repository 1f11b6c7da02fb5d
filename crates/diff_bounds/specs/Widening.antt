-- Widening by thresholds (Cousot and Cousot 1977).
use Rattle.std.specs.Prelude.{◌≡◌, ◌⊎◌, ℕ, ◌<◌, List, ℤ, pos, neg_ℤ, ◌≤ℤ◌, ◌<ℤ◌, length, slice_index_or}
use Rattle.diff_bounds.specs.Matrix.{none, largest}

-- the thresholds are numbers that a word can be
pub record AreThresholds (thresholds : List ℤ) : Type 0 where
  pub low : (k : ℕ) → k < length thresholds → neg_ℤ largest ≤ℤ slice_index_or thresholds k (pos 0)
  pub high : (k : ℕ) → k < length thresholds → slice_index_or thresholds k (pos 0) ≤ℤ largest

abbrev pub IsListed : List ℤ → ℤ → Type 0
IsListed thresholds t = (k : ℕ) × (k < length thresholds) × (slice_index_or thresholds k (pos 0) ≡ t)

-- the least threshold at or above z, or none where none is
pub record IsNext (thresholds : List ℤ) (z x : ℤ) : Type 0 where
  pub one : (x ≡ none) ⊎ IsListed thresholds x
  pub above : z ≤ℤ x
  pub least : (k : ℕ) → k < length thresholds → z ≤ℤ slice_index_or thresholds k (pos 0) → x ≤ℤ slice_index_or thresholds k (pos 0)

-- a word that doesn't grow is kept, and one that grows goes to the next threshold
pub record IsWidened (thresholds : List ℤ) (old reached x : ℤ) : Type 0 where
  pub kept : reached ≤ℤ old → x ≡ old
  pub moved : old <ℤ reached → IsNext thresholds reached x

pub record AreWidened (thresholds old reached new : List ℤ) : Type 0 where
  pub words : (k : ℕ) → k < length old → IsWidened thresholds (slice_index_or old k (pos 0)) (slice_index_or reached k (pos 0)) (slice_index_or new k (pos 0))
