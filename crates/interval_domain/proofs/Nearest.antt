-- Nearest thresholds by their places.
use Rattle.std.proofs.Common.{◌≡◌, ℕ, ◌+◌, ◌<◌, List, ℤ, pos, ◌≤ℤ◌, below_more, arith, length, get_or, refl, sym, subst}
use Rattle.std.proofs.lemmas.Int.{ints}
use Rattle.interval_domain.specs.Thresholds.{IsNearestBelow, IsNearestAbove}

pub below_from : (ts : List ℤ) (z t : ℤ) (place : ℕ) → place < length ts → t ≡ get_or ts place (pos 0) → get_or ts place (pos 0) ≤ℤ z → ((k : ℕ) → k < length ts → get_or ts k (pos 0) ≤ℤ z → get_or ts k (pos 0) ≤ℤ get_or ts place (pos 0)) → IsNearestBelow ts z t
below_from ts z t place within e below nearest =
    subst (λ r. IsNearestBelow ts z r) (sym e) (record {
      listed = (place, within, refl);
      below = below;
      nearest = λ u (k, h, f) least. subst (λ r. r ≤ℤ get_or ts place (pos 0)) f (nearest k h (subst (λ r. r ≤ℤ z) (sym f) least));
    })

pub above_from : (ts : List ℤ) (z t : ℤ) (place : ℕ) → place < length ts → t ≡ get_or ts place (pos 0) → z ≤ℤ get_or ts place (pos 0) → ((k : ℕ) → k < length ts → z ≤ℤ get_or ts k (pos 0) → get_or ts place (pos 0) ≤ℤ get_or ts k (pos 0)) → IsNearestAbove ts z t
above_from ts z t place within e above nearest =
    subst (λ r. IsNearestAbove ts z r) (sym e) (record {
      listed = (place, within, refl);
      above = above;
      nearest = λ u (k, h, f) greatest. subst (λ r. get_or ts place (pos 0) ≤ℤ r) f (nearest k h (subst (λ r. z ≤ℤ r) (sym f) greatest));
    })

-- one place more
pub step_below : (ts : List ℤ) (z : ℤ) (n k r : ℕ) → ((j : ℕ) → j < k → get_or ts j (pos 0) ≤ℤ z → get_or ts j (pos 0) ≤ℤ get_or ts n (pos 0)) → get_or ts n (pos 0) ≤ℤ get_or ts r (pos 0) → (get_or ts k (pos 0) ≤ℤ z → get_or ts k (pos 0) ≤ℤ get_or ts r (pos 0)) → (j : ℕ) → j < k + 1 → get_or ts j (pos 0) ≤ℤ z → get_or ts j (pos 0) ≤ℤ get_or ts r (pos 0)
step_below ts z n k r before kept taken =
    below_more (λ j. get_or ts j (pos 0) ≤ℤ z → get_or ts j (pos 0) ≤ℤ get_or ts r (pos 0)) k
    (λ j h l. let first : get_or ts j (pos 0) ≤ℤ get_or ts n (pos 0) = before j h l in omega (arith, ints)) taken

pub step_above : (ts : List ℤ) (z : ℤ) (n k r : ℕ) → ((j : ℕ) → j < k → z ≤ℤ get_or ts j (pos 0) → get_or ts n (pos 0) ≤ℤ get_or ts j (pos 0)) → get_or ts r (pos 0) ≤ℤ get_or ts n (pos 0) → (z ≤ℤ get_or ts k (pos 0) → get_or ts r (pos 0) ≤ℤ get_or ts k (pos 0)) → (j : ℕ) → j < k + 1 → z ≤ℤ get_or ts j (pos 0) → get_or ts r (pos 0) ≤ℤ get_or ts j (pos 0)
step_above ts z n k r before kept taken =
    below_more (λ j. z ≤ℤ get_or ts j (pos 0) → get_or ts r (pos 0) ≤ℤ get_or ts j (pos 0)) k
    (λ j h l. let first : get_or ts n (pos 0) ≤ℤ get_or ts j (pos 0) = before j h l in omega (arith, ints)) taken
