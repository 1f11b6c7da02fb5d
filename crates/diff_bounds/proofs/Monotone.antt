-- Lower matrices have lower closures, and what stands in a matrix stands above it.
use Rattle.std.proofs.Common.{◌≡◌, ℕ, ◌+◌, ◌*◌, ◌<◌, List, [], ◌∷◌, length, ℤ, ◌≤ℤ◌, ◌<ℤ◌, Option, sym, subst, arith}
use Rattle.std.proofs.lemmas.Int.{ints, by_lt_z}
use Rattle.diff_bounds.specs.Matrix.{word, none, IsWord, IsMatrix}
use Rattle.diff_bounds.specs.Paths.{path_sum, AreBounds, AreBelow, IsPath, cut_of, HasNoNegativeCycle, IsLeastSum, IsClosure}
use Rattle.diff_bounds.specs.Order.{IsAtMost}
use Rattle.diff_bounds.specs.Storages.{value_at, StandsIn}
use Rattle.diff_bounds.proofs.Places.{place_fits}
use Rattle.diff_bounds.proofs.Steps.{cut_monotone, cut_is_word}
use Rattle.diff_bounds.proofs.Standing.{differ_more}
use Rattle.diff_bounds.proofs.MatrixLattice.{by_places}

-- each word is at most the other
record AreLower (n : ℕ) (a b : ℕ → ℕ → ℤ) : Type 0 where
  words : (i j : ℕ) → i < n → j < n → a i j ≤ℤ b i j

lower_of : (size : ℕ) (a b : List ℤ) → length a ≡ (size + 1) * (size + 1) → IsAtMost a b → AreLower (size + 1) (word (size + 1) a) (word (size + 1) b)
lower_of size a b e below = record { words = λ i j h g. below.words (i * (size + 1) + j) (omega (arith, e, place_fits (size + 1) i j h g)) }

bounds_below : (n : ℕ) (a b : ℕ → ℕ → ℤ) → AreLower n a b → (i : ℕ) (p : List ℕ) (j : ℕ) → i < n → j < n → AreBelow n p → AreBounds b i p j → AreBounds a i p j × (path_sum a i p j ≤ℤ path_sum b i p j)
bounds_below n a b lower i [] j h g below bounds = let low = lower.words i j h g in (omega (arith, ints), low)
bounds_below n a b lower i (v ∷ p) j h g (lt, below) (bound, bounds) =
    let low : a i v ≤ℤ b i v = lower.words i v h lt in
    let rest = bounds_below n a b lower v p j lt g below bounds in
    ((omega (arith, ints), rest.0), omega (arith, ints, rest.1))

path_below : (n : ℕ) (a b : ℕ → ℕ → ℤ) → AreLower n a b → (i : ℕ) (p : List ℕ) (j : ℕ) → i < n → j < n → IsPath n b i p j → IsPath n a i p j × (path_sum a i p j ≤ℤ path_sum b i p j)
path_below n a b lower i p j h g path =
    let both = bounds_below n a b lower i p j h g path.places path.bounds in
    (record { places = path.places; bounds = both.0 }, both.1)

pub cycles_above : (size : ℕ) (a b : List ℤ) → length a ≡ (size + 1) * (size + 1) → IsAtMost a b → HasNoNegativeCycle (size + 1) (word (size + 1) a) → HasNoNegativeCycle (size + 1) (word (size + 1) b)
cycles_above size a b e below free = record {
  cycle = λ i p lt path.
      let both = path_below (size + 1) (word (size + 1) a) (word (size + 1) b) (lower_of size a b e below) i p i lt lt path in
      let sum = free.cycle i p lt both.0 in
      omega (arith, ints, both.1, sum);
}

pub closures_below : (size : ℕ) (a b c d : List ℤ) → length a ≡ (size + 1) * (size + 1) → IsMatrix size c → IsMatrix size d → IsAtMost a b → IsClosure (size + 1) (word (size + 1) a) (word (size + 1) c) → IsClosure (size + 1) (word (size + 1) b) (word (size + 1) d) → IsAtMost c d
closures_below size a b c d e first second below low high = by_places size d c first.width each
  where
    each : (i j : ℕ) → i < size + 1 → j < size + 1 → word (size + 1) c i j ≤ℤ word (size + 1) d i j
    each i j h g =
        let place = place_fits (size + 1) i j h g in
        let top = (first.words (i * (size + 1) + j) (omega (arith, first.width, place))).top in
        by_lt_z (word (size + 1) d i j) none
        (λ (lt : word (size + 1) d i j <ℤ none).
        let r = (high.sums i j h g).reached lt in
        let both = path_below (size + 1) (word (size + 1) a) (word (size + 1) b) (lower_of size a b e below) i r.0 j h g r.1 in
        let least = (low.sums i j h g).least r.0 both.0 in
        let cut = cut_monotone (path_sum (word (size + 1) a) i r.0 j) (path_sum (word (size + 1) b) i r.0 j) both.1 in
        let end : word (size + 1) c i j ≤ℤ cut_of (path_sum (word (size + 1) b) i r.0 j) = omega (arith, ints, least, cut) in
        subst (λ (x : ℤ). word (size + 1) c i j ≤ℤ x) (sym r.2) end)
        (λ (le : none ≤ℤ word (size + 1) d i j). omega (arith, ints, top))

pub stands_higher : (size : ℕ) (a b : List ℤ) (cells : ℕ → Option ℤ) → length a ≡ (size + 1) * (size + 1) → IsAtMost a b → StandsIn (size + 1) (word (size + 1) a) cells → StandsIn (size + 1) (word (size + 1) b) cells
stands_higher size a b cells e below stands = record {
  bounded = λ i j h g ne bound.
      let low = (lower_of size a b e below).words i j h g in
      differ_more (word (size + 1) a i j) (word (size + 1) b i j) (value_at cells i) (value_at cells j) low (stands.bounded i j h g ne (omega (arith, ints)));
}

-- ---- the word of a closure is the cut of the least sum
pub cut_of_least : (n : ℕ) (w : ℕ → ℕ → ℤ) (i j : ℕ) (x : ℤ) → IsWord x → IsLeastSum n w i j x → (p : List ℕ) → IsPath n w i p j → ((q : List ℕ) → IsPath n w i q j → path_sum w i p j ≤ℤ path_sum w i q j) → x ≡ cut_of (path_sum w i p j)
cut_of_least n w i j x word is p path least = by_lt_z x none reached absent
  where
    low : x ≤ℤ cut_of (path_sum w i p j)
    low = is.least p path

    reached : x <ℤ none → x ≡ cut_of (path_sum w i p j)
    reached b =
        let r = is.reached b in
        let cut : cut_of (path_sum w i p j) ≤ℤ cut_of (path_sum w i r.0 j) = cut_monotone (path_sum w i p j) (path_sum w i r.0 j) (least r.0 r.1) in
        omega (arith, ints, cut, r.2, low)

    absent : none ≤ℤ x → x ≡ cut_of (path_sum w i p j)
    absent le = let top = (cut_is_word (path_sum w i p j)).top in omega (arith, ints, top, low, word.top)

pub none_without_path : (n : ℕ) (w : ℕ → ℕ → ℤ) (i j : ℕ) (x : ℤ) → IsWord x → IsLeastSum n w i j x → ((p : List ℕ) → IsPath n w i p j → ⊥) → x ≡ none
none_without_path n w i j x word is apart = by_lt_z x none
    (λ (b : x <ℤ none). absurd (let r = is.reached b in apart r.0 r.1))
    (λ (le : none ≤ℤ x). let top = word.top in omega (arith, ints))
