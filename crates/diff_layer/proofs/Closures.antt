-- A closure is its own closure.
use Rattle.std.proofs.Common.{◌≡◌, ℕ, ◌+◌, ◌<◌, ◌≤◌, List, [], ◌∷◌, ◌++◌, ℤ, ◌≤ℤ◌, ◌<ℤ◌, Some, sym, subst, arith}
use Rattle.std.proofs.lemmas.Int.{ints, clamps, by_lt_z}
use Rattle.diff_bounds.specs.Matrix.{word, none, IsBound, IsWord, IsMatrix}
use Rattle.diff_bounds.specs.Paths.{path_sum, IsPath, cut_of, HasNoNegativeCycle, IsClosure}
use Rattle.diff_bounds.proofs.Walks.{AreWords, sum_join, bounds_join, below_join}
use Rattle.diff_bounds.proofs.Steps.{cut_monotone}
use Rattle.diff_bounds.proofs.Ends.{words_of}
use Rattle.diff_bounds.specs.Closed.{closed, IsClosed, IsClosedOrNone}
use Rattle.diff_bounds.proofs.Closures.{closed_or, closed_to}

-- ---- one word

-- a sum that isn't cut to none is raised at most
not_above_cut : (x z : ℤ) → IsBound x → x ≡ cut_of z → z ≤ℤ x
not_above_cut x z b e = grind (arith, ints, clamps)

word_is_cut : (x : ℤ) → IsWord x → IsBound x → x ≡ cut_of x
word_is_cut x is b = let low = is.low in let high = is.high b in grind (arith, ints, clamps)

cut_below : (x y : ℤ) → IsWord y → IsBound y → x ≤ℤ cut_of y → x ≤ℤ y
cut_below x y is b h = subst (λ (z : ℤ). x ≤ℤ z) (sym (word_is_cut y is b)) h

-- ---- paths

module _ (n : ℕ) (old new : ℕ → ℕ → ℤ) (closure : IsClosure n old new) where
  -- a path over the old words that isn't longer
  path_behind : (i j : ℕ) (p : List ℕ) → i < n → j < n → IsPath n new i p j → (q : List ℕ) × IsPath n old i q j × (path_sum old i q j ≤ℤ path_sum new i p j)
  path_behind i j [] h g path =
      let r = (closure.sums i j h g).reached path.bounds in
      (r.0, r.1, not_above_cut (new i j) (path_sum old i r.0 j) path.bounds r.2)
  path_behind i j (v ∷ p) h g path =
      let r = (closure.sums i v h path.places.0).reached path.bounds.0 in
      let rest = path_behind v j p path.places.0 g (record { places = path.places.1; bounds = path.bounds.1 }) in
      let less : path_sum old i r.0 v ≤ℤ new i v = not_above_cut (new i v) (path_sum old i r.0 v) path.bounds.0 r.2 in
      let later : path_sum old v rest.0 j ≤ℤ path_sum new v p j = rest.2 in
      let joined = sum_join old i r.0 v rest.0 j in (
        r.0 ++ v ∷ rest.0,
        record {
          places = below_join n r.0 v rest.0 r.1.places path.places.0 rest.1.places;
          bounds = bounds_join old i r.0 v rest.0 j r.1.bounds rest.1.bounds;
        },
        omega (arith, ints, less, later, joined),
      )

  tame_again : HasNoNegativeCycle n old → HasNoNegativeCycle n new
  tame_again tame = record {
    cycle = λ i p h path.
        let q = path_behind i i p h h path in
        let sum = tame.cycle i q.0 h q.1 in
        let less : path_sum old i q.0 i ≤ℤ path_sum new i p i = q.2 in
        omega (arith, ints, sum, less);
  }

  closure_again : AreWords n new → IsClosure n new new
  closure_again are = record {
    sums = λ i j h g. record {
      least = λ p path.
          let q = path_behind i j p h g path in
          let least = (closure.sums i j h g).least q.0 q.1 in
          let cut = cut_monotone (path_sum old i q.0 j) (path_sum new i p j) q.2 in
          omega (arith, ints, least, cut);
      reached = λ b. ([], record { places = tt; bounds = b }, word_is_cut (new i j) (are.words i j h g) b);
    };
  }

  -- no word is above the old one
  closure_below : AreWords n old → AreWords n new → (i j : ℕ) → i < n → j < n → new i j ≤ℤ old i j
  closure_below olds are i j h g =
      by_lt_z (old i j) none
      (λ (b : old i j <ℤ none). cut_below (new i j) (old i j) (olds.words i j h g) b ((closure.sums i j h g).least [] (record { places = tt; bounds = b })))
      (λ (le : none ≤ℤ old i j). let top = (are.words i j h g).top in omega (arith, ints, top, le))

-- ---- matrices

-- what is closed is a closure
pub closing_is : (size : ℕ) (m c : List ℤ) → size ≤ 8 → IsMatrix size m → closed size m ≡ Some c → IsClosed size m c
closing_is size m c few is e = subst (IsClosedOrNone size m) e (closed_or size m few is)

pub closed_again : (size : ℕ) (m c : List ℤ) → size ≤ 8 → IsClosed size m c → closed size c ≡ Some c
closed_again size m c few is =
    closed_to size c c few is.matrix
    (record {
      matrix = is.matrix;
      tame = tame_again (size + 1) (word (size + 1) m) (word (size + 1) c) is.closure is.tame;
      closure = closure_again (size + 1) (word (size + 1) m) (word (size + 1) c) is.closure (words_of size c is.matrix);
    })

pub closed_below : (size : ℕ) (m c : List ℤ) → IsMatrix size m → IsClosed size m c → (i j : ℕ) → i < size + 1 → j < size + 1 → word (size + 1) c i j ≤ℤ word (size + 1) m i j
closed_below size m c is closes i j h g =
    closure_below (size + 1) (word (size + 1) m) (word (size + 1) c) closes.closure (words_of size m is) (words_of size c closes.matrix) i j h g
