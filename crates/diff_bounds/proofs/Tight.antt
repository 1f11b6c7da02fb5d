-- In a closure that is settled no word is above the sum of two words.
use Rattle.std.proofs.Common.{◌≡◌, ◌≢◌, ℕ, ◌+◌, ◌*◌, ◌^◌, ◌<◌, ◌≤◌, List, ◌∷◌, ◌++◌, ℤ, pos, neg_ℤ, ◌+ℤ◌, ◌≤ℤ◌, ◌⊎◌, inl, inr, ap, subst, ◌∙◌, arith}
use Rattle.std.proofs.lemmas.Int.{ints, clamps}
use Rattle.diff_bounds.specs.Matrix.{word, IsBound, IsMatrix}
use Rattle.diff_bounds.specs.Paths.{path_sum, IsPath, cut_of, IsClosure}
use Rattle.diff_bounds.proofs.Walks.{sum_join, bounds_join, below_join}
use Rattle.diff_bounds.proofs.Places.{place_fits}
use Rattle.diff_bounds.specs.Settled.{IsSettledWord, IsSettled, IsTightBut}

-- a settled word was not cut
uncut : (x z : ℤ) → IsSettledWord x → IsBound x → x ≡ cut_of z → z ≡ x
uncut x z is b e = let low = is.low in let high : x ≤ℤ pos (4 * 10 ^ 36) = is.high b in grind (arith, ints, clamps)

cut_small : (z : ℤ) → neg_ℤ (pos (8 * 10 ^ 36)) ≤ℤ z → z ≤ℤ pos (8 * 10 ^ 36) → cut_of z ≡ z
cut_small z low high = grind (arith, ints, clamps)

no_sum_is_less : (n : ℕ) (old new : ℕ → ℕ → ℤ) → IsClosure n old new → (i j k : ℕ) → i < n → j < n → k < n → IsSettledWord (new i k) → IsSettledWord (new k j) → IsBound (new i k) → IsBound (new k j) → new i j ≤ℤ (new i k +ℤ new k j)
no_sum_is_less n old new closure i j k h g l first second b d =
    let r = (closure.sums i k h l).reached b in
    let q = (closure.sums k j l g).reached d in
    let one : path_sum old i r.0 k ≡ new i k = uncut (new i k) (path_sum old i r.0 k) first b r.2 in
    let other : path_sum old k q.0 j ≡ new k j = uncut (new k j) (path_sum old k q.0 j) second d q.2 in
    let path : IsPath n old i (r.0 ++ k ∷ q.0) j = record {
      places = below_join n r.0 k q.0 r.1.places l q.1.places;
      bounds = bounds_join old i r.0 k q.0 j r.1.bounds q.1.bounds;
    } in
    let least : new i j ≤ℤ cut_of (path_sum old i (r.0 ++ k ∷ q.0) j) = (closure.sums i j h g).least (r.0 ++ k ∷ q.0) path in
    let sum : path_sum old i (r.0 ++ k ∷ q.0) j ≡ new i k +ℤ new k j = let joined = sum_join old i r.0 k q.0 j in omega (arith, ints, joined, one, other) in
    let small : cut_of (new i k +ℤ new k j) ≡ new i k +ℤ new k j =
    cut_small (new i k +ℤ new k j)
    (let x = first.low in let y = second.low in omega (arith, ints, x, y))
    (let x : new i k ≤ℤ pos (4 * 10 ^ 36) = first.high b in let y : new k j ≤ℤ pos (4 * 10 ^ 36) = second.high d in omega (arith, ints, x, y)) in
    subst (λ (z : ℤ). new i j ≤ℤ z) (ap cut_of sum ∙ small) least

pub tight_of_closure : (size : ℕ) (m c : List ℤ) → IsMatrix size c → IsClosure (size + 1) (word (size + 1) m) (word (size + 1) c) → IsSettled c → (at : ℕ) → IsTightBut (size + 1) at (word (size + 1) c)
tight_of_closure size m c is closure settled at = record {
  triangle = λ i j k h g l ne apart third b d. no_sum_is_less (size + 1) (word (size + 1) m) (word (size + 1) c) closure i j k h g l
      (settled.words (i * (size + 1) + k) (omega (arith, is.width, place_fits (size + 1) i k h l)))
      (settled.words (k * (size + 1) + j) (omega (arith, is.width, place_fits (size + 1) k j l g))) b d;
}

-- ---- where words of one row and of its column have changed
pub tight_beside : (n at : ℕ) (old new : ℕ → ℕ → ℤ) → ((i j : ℕ) → i < n → j < n → i ≢ at → j ≢ at → new i j ≡ old i j) → IsTightBut n at old → IsTightBut n at new
tight_beside n at old new same tight = record {
  triangle = λ i j k h g l ne apart third b d.
      let x = same i j h g ne apart in
      let y = same i k h l ne third in
      let z = same k j l g third apart in
      let less : old i j ≤ℤ (old i k +ℤ old k j) = tight.triangle i j k h g l ne apart third (subst (λ (v : ℤ). IsBound v) y b) (subst (λ (v : ℤ). IsBound v) z d) in
      omega (arith, ints, less, x, y, z);
}

-- one word has changed
pub tight_but_one : (size at row column : ℕ) (old new : ℕ → ℕ → ℤ) → ((i j : ℕ) → i ≤ size → j ≤ size → (i ≢ row) ⊎ (j ≢ column) → new i j ≡ old i j) → (row ≡ at) ⊎ (column ≡ at) → IsTightBut (size + 1) at old → IsTightBut (size + 1) at new
tight_but_one size at row column old new others one tight = tight_beside (size + 1) at old new (λ i j h g ne apart. same i j h g ne apart one) tight
  where
    same : (i j : ℕ) → i < size + 1 → j < size + 1 → i ≢ at → j ≢ at → (row ≡ at) ⊎ (column ≡ at) → new i j ≡ old i j
    same i j h g ne apart (inl e) = others i j (omega arith) (omega arith) (inl (λ f. ne (f ∙ e)))
    same i j h g ne apart (inr e) = others i j (omega arith) (omega arith) (inr (λ f. apart (f ∙ e)))
