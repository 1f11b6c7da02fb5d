-- Sums that go through one more place.
use Rattle.std.proofs.Common.{◌≡◌, ◌≢◌, ℕ, ◌*◌, ◌^◌, ◌<◌, ◌≤◌, List, [], ◌∷◌, ℤ, pos, neg_ℤ, ◌+ℤ◌, ◌≤ℤ◌, ◌<ℤ◌, ◌⊎◌, inl, inr, subst, ◌∙◌, arith}
use Rattle.std.proofs.lemmas.Int.{ints, by_lt_z}
use Rattle.std.proofs.lemmas.Bool.{cases_eq}
use Rattle.diff_bounds.specs.Matrix.{none, IsBound, IsWord}
use Rattle.diff_bounds.specs.Paths.{path_sum, AreBounds, AreBelow}
use Rattle.diff_bounds.specs.Sums.{no_path, IsSum, IsShort, IsSumOf, IsTight, AreShort}
use Rattle.diff_bounds.proofs.Walks.{HasNoNegativeCycleBelow, AreWords, sum_high, sum_low, few_suffice, below_more}

-- ---- at the start
-- each word with no_path for none
pub record AreOpened (n : ℕ) (old new : ℕ → ℕ → ℤ) : Type 0 where
  pub words : (i j : ℕ) → i < n → j < n → IsSumOf (old i j) (new i j)

sum_is_bound : (x z : ℤ) → IsSumOf x z → IsSum z → IsBound x
sum_is_bound x z is h = by_lt_z x none (λ (lt : x <ℤ none). lt) (λ (le : none ≤ℤ x). absurd (let e : z ≡ no_path = is.absent le in omega (arith, ints)))

pub tight_first : (n : ℕ) (old new : ℕ → ℕ → ℤ) → ((i : ℕ) → i < n → old i i ≡ pos 0) → AreOpened n old new → IsTight n 0 old new
tight_first n old new diagonal are = record {
  diagonal = λ i h. (are.words i i h h).number (let e : old i i ≡ pos 0 = diagonal i h in omega (arith, ints)) ∙ diagonal i h;
  below = λ i j h k b. let e : new i j ≡ old i j = (are.words i j h k).number b in omega (arith, ints);
  joined = λ v i j lt. absurd (omega arith);
  triangle = λ v i j lt. absurd (omega arith);
  reached = λ i j h k s. let b = sum_is_bound (old i j) (new i j) (are.words i j h k) s in ([], record { places = tt; bounds = b }, (are.words i j h k).number b);
}

pub short_first : (n : ℕ) (old new : ℕ → ℕ → ℤ) → AreWords n old → AreOpened n old new → AreShort n new
short_first n old new words are = record { short = λ i j h k. short_of (old i j) (new i j) (words.words i j h k) (are.words i j h k) }
  where
    short_of : (x z : ℤ) → IsWord x → IsSumOf x z → IsShort z
    short_of x z word is = by_lt_z x none
        (λ (lt : x <ℤ none). let e : z ≡ x = is.number lt in let high : x ≤ℤ pos (10 ^ 37) = word.high lt in record { low = omega (arith, ints); high = λ s. omega (arith, ints); top = omega (arith, ints) })
        (λ (le : none ≤ℤ x). let e : z ≡ no_path = is.absent le in record { low = omega (arith, ints); high = λ s. absurd (omega (arith, ints)); top = omega (arith, ints) })

-- ---- a path's sum is no less
pub along : (n k : ℕ) (old new : ℕ → ℕ → ℤ) → IsTight n k old new → AreWords n old → k ≤ n → (i : ℕ) (p : List ℕ) (j : ℕ) → i < n → j < n → AreBelow k p → AreBounds old i p j → IsSum (new i j) × (new i j ≤ℤ path_sum old i p j)
along n k old new t words few i [] j h g below b =
    let word : IsWord (old i j) = words.words i j h g in
    let most : new i j ≤ℤ old i j = t.below i j h g b in
    (omega (arith, ints), most)
along n k old new t words few i (v ∷ p) j h g (lt, below) (b, d) =
    let inside : v < n = omega arith in
    let word : IsWord (old i v) = words.words i v h inside in
    let first : new i v ≤ℤ old i v = t.below i v h inside b in
    let rest = along n k old new t words few v p j inside g below d in
    let near : IsSum (new i v) = omega (arith, ints) in
    let less : new i j ≤ℤ (new i v +ℤ new v j) = t.triangle v i j lt h g near rest.0 in
    (t.joined v i j lt h g near rest.0, omega (arith, ints, rest.1))

pub cycles_below : (n k : ℕ) (old new : ℕ → ℕ → ℤ) → IsTight n k old new → AreWords n old → k ≤ n → HasNoNegativeCycleBelow n k old
cycles_below n k old new t words few = record {
  cycle = λ v p lt below b.
      let least = along n k old new t words few v p v lt lt below b in
      let zero_sum : new v v ≡ pos 0 = t.diagonal v lt in
      omega (arith, ints, least.1);
}

-- ---- sums are short
pub short_again : (n k : ℕ) (old new : ℕ → ℕ → ℤ) → n ≤ 9 → k ≤ n → AreWords n old → IsTight n k old new → ((i j : ℕ) → i < n → j < n → new i j ≤ℤ no_path) → AreShort n new
short_again n k old new small few words t tops = record { short = λ i j h g. by_places i j h g (cases_eq i j) }
  where
    sums : (i j : ℕ) → i < n → j < n → i ≢ j → IsSum (new i j) → (neg_ℤ (pos (8 * 10 ^ 37)) ≤ℤ new i j) × (new i j ≤ℤ pos (8 * 10 ^ 37))
    sums i j h g ne near =
        let r = t.reached i j h g near in
        let f = few_suffice n k old few (cycles_below n k old new t words few) i j h g ne r.0 r.1.places r.1.bounds in
        let least = along n k old new t words few i f.between j h g f.below f.bounds in
        let high = sum_high n old words i f.between j h g (below_more k n f.between few f.below) f.bounds in
        let low = sum_low n old words i f.between j h g (below_more k n f.between few f.below) f.bounds in
        (omega (arith, ints, f.less, f.few, low, r.2), omega (arith, ints, f.few, high, least.1))

    by_places : (i j : ℕ) → i < n → j < n → (i ≡ j) ⊎ (i ≡ j → ⊥) → IsShort (new i j)
    by_places i j h g (inl e) =
        let zero_sum : new i j ≡ pos 0 = subst (λ (y : ℕ). new i y ≡ pos 0) e (t.diagonal i h) in
        record { low = omega (arith, ints); high = λ s. omega (arith, ints); top = omega (arith, ints) }
    by_places i j h g (inr ne) = by_lt_z (new i j) no_path
        (λ (lt : new i j <ℤ no_path). let s = sums i j h g ne lt in record { low = s.0; high = λ near. s.1; top = tops i j h g })
        (λ (le : no_path ≤ℤ new i j). record { low = omega (arith, ints); high = λ near. absurd (omega (arith, ints)); top = tops i j h g })
