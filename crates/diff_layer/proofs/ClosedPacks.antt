-- What `close` leaves is the closing.
use Rattle.std.proofs.Common.{◌≡◌, ℕ, ◌+◌, ◌≤◌, Bool, true, false, cond, List, ℤ, Some, None, refl}
use Rattle.std.specs.Prelude.{◌↔◌, IsTrue}
use Rattle.std.proofs.lemmas.Bool.{false≢true}
use Rattle.diff_bounds.specs.Matrix.{word, IsMatrix}
use Rattle.diff_bounds.specs.Paths.{HasNoNegativeCycle, IsClosure}
use Rattle.diff_bounds.specs.Closed.{closed}
use Rattle.diff_bounds.proofs.Closures.{closed_to, none_closed_without}

pub closed_by : (size : ℕ) (m c : List ℤ) (b : Bool) → size ≤ 8 → IsMatrix size m → (IsTrue b ↔ HasNoNegativeCycle (size + 1) (word (size + 1) m))
    → (IsTrue b → IsClosure (size + 1) (word (size + 1) m) (word (size + 1) c)) → (IsTrue b → IsMatrix size c)
    → closed size m ≡ cond b (Some c) None
closed_by size m c true few is cycles sums matrix =
    closed_to size m c few is (record { matrix = matrix refl; tame = cycles.0 refl; closure = sums refl })
closed_by size m c false few is cycles sums matrix = none_closed_without size m few is (λ tame. absurd (false≢true (cycles.1 tame)))
