-- The closure of a matrix that is tight but for one row and its column.
use Rattle.std.proofs.Common.{◌≡◌, ℕ, ◌+◌, ◌*◌, ◌/◌, ◌%◌, ◌^◌, ◌<◌, ◌≤◌, List, [], ◌∷◌, length, get_or, ℤ, pos, ◌+ℤ◌, ◌≤ℤ◌, ◌<ℤ◌, ◌⊎◌, inl, inr, sym, ap, subst, ◌∙◌, arith}
use Rattle.std.proofs.lemmas.Int.{ints, clamps, by_lt_z}
use Rattle.std.proofs.lemmas.Bool.{cases_eq}
use Rattle.std.proofs.lemmas.Nat.{div-add-mod', mod_below, div_below}
use Rattle.diff_bounds.specs.Matrix.{word, largest, IsBound, IsWord, IsMatrix}
use Rattle.diff_bounds.specs.Paths.{path_sum, IsPath, AreBounds, AreBelow, cut_of, HasNoNegativeCycle, IsClosure}
use Rattle.diff_bounds.specs.Sums.{NegativeCycle}
use Rattle.diff_bounds.proofs.Walks.{AreWords}
use Rattle.diff_bounds.proofs.Steps.{cut_monotone, cut_is_word}
use Rattle.diff_bounds.proofs.Ends.{words_of}
use Rattle.diff_bounds.specs.Settled.{IsTightBut}
use Rattle.diff_bounds.specs.RowSums.{IsSum, AreInto, AreFrom, IsNegativeAt, AreLowered}

cut_same : (z : ℤ) → IsWord z → IsBound z → cut_of z ≡ z
cut_same z word b = let high : z ≤ℤ largest = word.high b in let low = word.low in grind (arith, ints, clamps)

cut_positive : (z : ℤ) → pos 0 ≤ℤ z → pos 0 ≤ℤ cut_of z
cut_positive z h = grind (arith, ints, clamps)

-- ---- what was found
-- no round trip from the place was negative
pub record AreFound (n at : ℕ) (w : ℕ → ℕ → ℤ) (into from : List ℤ) : Type 0 where
  pub within : at < n
  pub zeros : (i : ℕ) → i < n → w i i ≡ pos 0
  pub words : AreWords n w
  pub tight : IsTightBut n at w
  pub into_ : AreInto n at w into
  pub from_ : AreFrom n at w from
  pub tame : (v : ℕ) → v < n → IsNegativeAt at w into v → ⊥

abbrev at_place : List ℤ → ℕ → ℤ
at_place sums i = get_or sums i (pos 0)

-- a word or the way over the place is no more than s
abbrev Bounds : (ℕ → ℕ → ℤ) → List ℤ → List ℤ → ℕ → ℕ → ℤ → Type 0
Bounds w into from i j s = (IsBound (w i j) × (w i j ≤ℤ s)) ⊎ (IsSum (at_place into i) × IsSum (at_place from j) × ((at_place into i +ℤ at_place from j) ≤ℤ s))

bounds_more : (w : ℕ → ℕ → ℤ) (into from : List ℤ) (i j : ℕ) (s t : ℤ) → s ≤ℤ t → Bounds w into from i j s → Bounds w into from i j t
bounds_more w into from i j s t h (inl (b, le)) = inl (b, omega (arith, ints, h, le))
bounds_more w into from i j s t h (inr (x, y, le)) = inr (x, y, omega (arith, ints, h, le))

module _ (n at : ℕ) (w : ℕ → ℕ → ℤ) (into from : List ℤ) (are : AreFound n at w into from) where
  high_of : (i j : ℕ) → i < n → j < n → IsBound (w i j) → w i j ≤ℤ pos (10 ^ 37)
  high_of i j h g b = (are.words.words i j h g).high b

  zero_at : w at at ≡ pos 0
  zero_at = are.zeros at are.within

  bound_at : IsBound (w at at)
  bound_at = let e = zero_at in omega (arith, ints, e)

  positive : (v : ℕ) → v < n → IsBound (w at v) → IsSum (at_place into v) → pos 0 ≤ℤ (w at v +ℤ at_place into v)
  positive v h b s = by_lt_z (w at v +ℤ at_place into v) (pos 0)
      (λ (lt : (w at v +ℤ at_place into v) <ℤ pos 0). absurd (are.tame v h (b, s, lt)))
      (λ (le : pos 0 ≤ℤ (w at v +ℤ at_place into v)). le)

  -- the sums over one place more
  into_low : (i k : ℕ) → i < n → k < n → IsBound (w i k) → IsBound (w k at) → IsSum (at_place into i) × (at_place into i ≤ℤ (w i k +ℤ w k at))
  into_low i k h l b d =
      let low : at_place into i ≤ℤ (w i k +ℤ w k at) = (are.into_.sums i h).least k l b d in
      let x = high_of i k h l b in
      let y = high_of k at l are.within d in
      (omega (arith, ints, low, x, y), low)

  from_low : (j k : ℕ) → j < n → k < n → IsBound (w at k) → IsBound (w k j) → IsSum (at_place from j) × (at_place from j ≤ℤ (w at k +ℤ w k j))
  from_low j k h l b d =
      let low : at_place from j ≤ℤ (w at k +ℤ w k j) = (are.from_.sums j h).least k l b d in
      let x = high_of at k are.within l b in
      let y = high_of k j l h d in
      (omega (arith, ints, low, x, y), low)

  into_step : (i v : ℕ) → i < n → v < n → IsBound (w i v) → IsSum (at_place into v) → IsSum (at_place into i) × (at_place into i ≤ℤ (w i v +ℤ at_place into v))
  into_step i v h g b s = by_places (cases_eq i at) (cases_eq v at)
    where
      by_over : (i ≡ at → ⊥) → (v ≡ at → ⊥) → (k : ℕ) → k < n → IsBound (w v k) → IsBound (w k at) → at_place into v ≡ w v k +ℤ w k at → (k ≡ at) ⊎ (k ≡ at → ⊥) → IsSum (at_place into i) × (at_place into i ≤ℤ (w i v +ℤ at_place into v))
      by_over ne apart k l one two e (inl same) =
          let low = into_low i v h g b (subst (λ (x : ℕ). IsBound (w v x)) same one) in
          let sum : at_place into v ≡ w v at +ℤ w at at = subst (λ (x : ℕ). at_place into v ≡ w v x +ℤ w x at) same e in
          let z = zero_at in
          (low.0, omega (arith, ints, low.1, sum, z))
      by_over ne apart k l one two e (inr other) =
          let less : w i k ≤ℤ (w i v +ℤ w v k) = are.tight.triangle i k v h l g ne other apart b one in
          let x = high_of i v h g b in
          let y = high_of v k g l one in
          let low = into_low i k h l (omega (arith, ints, less, x, y)) two in
          (low.0, omega (arith, ints, low.1, less, e))

      by_places : (i ≡ at) ⊎ (i ≡ at → ⊥) → (v ≡ at) ⊎ (v ≡ at → ⊥) → IsSum (at_place into i) × (at_place into i ≤ℤ (w i v +ℤ at_place into v))
      by_places (inl same) other =
          let low = into_low at at are.within are.within bound_at bound_at in
          let more = positive v g (subst (λ (x : ℕ). IsBound (w x v)) same b) s in
          let z = zero_at in
          subst (λ (x : ℕ). IsSum (at_place into x) × (at_place into x ≤ℤ (w x v +ℤ at_place into v))) (sym same) (low.0, omega (arith, ints, low.1, more, z))
      by_places (inr ne) (inl same) =
          let low = into_low i at h are.within (subst (λ (x : ℕ). IsBound (w i x)) same b) bound_at in
          let more = positive at are.within bound_at (subst (λ (x : ℕ). IsSum (at_place into x)) same s) in
          let z = zero_at in
          subst (λ (x : ℕ). IsSum (at_place into i) × (at_place into i ≤ℤ (w i x +ℤ at_place into x))) (sym same) (low.0, omega (arith, ints, low.1, more, z))
      by_places (inr ne) (inr apart) =
          let over = (are.into_.sums v g).one s in
          by_over ne apart over.0 over.1 over.2 over.3 over.4 (cases_eq over.0 at)

  edges : (i v j : ℕ) → i < n → v < n → j < n → IsBound (w i v) → IsBound (w v j) → Bounds w into from i j (w i v +ℤ w v j)
  edges i v j h l g b d = by_places (cases_eq i at) (cases_eq v at) (cases_eq j at)
    where
      by_places : (i ≡ at) ⊎ (i ≡ at → ⊥) → (v ≡ at) ⊎ (v ≡ at → ⊥) → (j ≡ at) ⊎ (j ≡ at → ⊥) → Bounds w into from i j (w i v +ℤ w v j)
      by_places (inl same) third other =
          let x = into_low at at are.within are.within bound_at bound_at in
          let y = from_low j v g l (subst (λ (p : ℕ). IsBound (w p v)) same b) d in
          let z = zero_at in
          subst (λ (p : ℕ). Bounds w into from p j (w p v +ℤ w v j)) (sym same) (inr (x.0, y.0, omega (arith, ints, x.1, y.1, z)))
      by_places (inr ne) (inl same) other =
          let x = into_low i at h are.within (subst (λ (p : ℕ). IsBound (w i p)) same b) bound_at in
          let y = from_low j at g are.within bound_at (subst (λ (p : ℕ). IsBound (w p j)) same d) in
          let z = zero_at in
          subst (λ (p : ℕ). Bounds w into from i j (w i p +ℤ w p j)) (sym same) (inr (x.0, y.0, omega (arith, ints, x.1, y.1, z)))
      by_places (inr ne) (inr apart) (inl same) =
          let x = into_low i v h l b (subst (λ (p : ℕ). IsBound (w v p)) same d) in
          let y = from_low at at are.within are.within bound_at bound_at in
          let z = zero_at in
          subst (λ (p : ℕ). Bounds w into from i p (w i v +ℤ w v p)) (sym same) (inr (x.0, y.0, omega (arith, ints, x.1, y.1, z)))
      by_places (inr ne) (inr apart) (inr other) =
          let less : w i j ≤ℤ (w i v +ℤ w v j) = are.tight.triangle i j v h g l ne other apart b d in
          let x = high_of i v h l b in
          let y = high_of v j l g d in
          inl (omega (arith, ints, less, x, y), less)

  along : (i : ℕ) (p : List ℕ) (j : ℕ) → i < n → j < n → AreBelow n p → AreBounds w i p j → Bounds w into from i j (path_sum w i p j)
  along i [] j h g below b = inl (b, omega (arith, ints))
  along i (v ∷ p) j h g (lt, below) (b, d) = by_rest (along v p j lt g below d)
    where
      by_rest : Bounds w into from v j (path_sum w v p j) → Bounds w into from i j (w i v +ℤ path_sum w v p j)
      by_rest (inl (c, le)) = bounds_more w into from i j (w i v +ℤ w v j) (w i v +ℤ path_sum w v p j) (omega (arith, ints, le)) (edges i v j h lt g b c)
      by_rest (inr (s, t, le)) = let more = into_step i v h lt b s in inr (more.0, t, omega (arith, ints, le, more.1))

  trip_positive : (i : ℕ) → i < n → IsSum (at_place into i) → IsSum (at_place from i) → pos 0 ≤ℤ (at_place into i +ℤ at_place from i)
  trip_positive i h s t =
      let over = (are.from_.sums i h).one t in
      let step = into_step over.0 i over.1 h over.3 s in
      let more = positive over.0 over.1 over.2 step.0 in
      let e = over.4 in
      omega (arith, ints, step.1, more, e)

  pub no_cycle : HasNoNegativeCycle n w
  no_cycle = record { cycle = λ i p h path. by_bounds i p h (along i p i h h path.places path.bounds) }
    where
      by_bounds : (i : ℕ) (p : List ℕ) → i < n → Bounds w into from i i (path_sum w i p i) → pos 0 ≤ℤ path_sum w i p i
      by_bounds i p h (inl (b, le)) = let z = are.zeros i h in omega (arith, ints, le, z)
      by_bounds i p h (inr (s, t, le)) = let more = trip_positive i h s t in omega (arith, ints, le, more)

  -- ---- the words over the place
  least_of : (new : ℕ → ℕ → ℤ) → AreLowered n into from w new → (i j : ℕ) → i < n → j < n → (p : List ℕ) → Bounds w into from i j (path_sum w i p j) → new i j ≤ℤ cut_of (path_sum w i p j)
  least_of new lowered i j h g p (inl (b, le)) =
      let kept = (lowered.words i j h g).kept in
      let more = cut_monotone (w i j) (path_sum w i p j) le in
      let same = cut_same (w i j) (are.words.words i j h g) b in
      omega (arith, ints, kept, more, same)
  least_of new lowered i j h g p (inr (s, t, le)) =
      let low : new i j ≤ℤ cut_of (at_place into i +ℤ at_place from j) = (lowered.words i j h g).lowered s t in
      let more = cut_monotone (at_place into i +ℤ at_place from j) (path_sum w i p j) le in
      omega (arith, ints, low, more)

  reached_of : (new : ℕ → ℕ → ℤ) (i j : ℕ) → i < n → j < n → IsBound (new i j) → (new i j ≡ w i j) ⊎ (IsSum (at_place into i) × IsSum (at_place from j) × (new i j ≡ cut_of (at_place into i +ℤ at_place from j))) → (p : List ℕ) × IsPath n w i p j × (new i j ≡ cut_of (path_sum w i p j))
  reached_of new i j h g b (inl e) =
      let bound : IsBound (w i j) = subst (λ (z : ℤ). IsBound z) e b in
      ([], record { places = tt; bounds = bound }, e ∙ sym (cut_same (w i j) (are.words.words i j h g) bound))
  reached_of new i j h g b (inr (s, t, e)) =
      let first = (are.into_.sums i h).one s in
      let second = (are.from_.sums j g).one t in
      let sum : at_place into i +ℤ at_place from j ≡ path_sum w i (first.0 ∷ at ∷ second.0 ∷ []) j = let x = first.4 in let y = second.4 in omega (arith, ints, x, y) in (
        first.0 ∷ at ∷ second.0 ∷ [],
        record { places = (first.1, (are.within, (second.1, tt))); bounds = (first.2, (first.3, (second.2, second.3))) },
        e ∙ ap cut_of sum,
      )

  pub closure_is : (new : ℕ → ℕ → ℤ) → AreLowered n into from w new → IsClosure n w new
  closure_is new lowered = record {
    sums = λ i j h g. record {
      least = λ p path. least_of new lowered i j h g p (along i p j h g path.places path.bounds);
      reached = λ b. reached_of new i j h g b (lowered.words i j h g).one;
    };
  }

  pub word_is : (new : ℕ → ℕ → ℤ) → AreLowered n into from w new → (i j : ℕ) → i < n → j < n → IsWord (new i j)
  word_is new lowered i j h g = by_one (lowered.words i j h g).one
    where
      by_one : (new i j ≡ w i j) ⊎ (IsSum (at_place into i) × IsSum (at_place from j) × (new i j ≡ cut_of (at_place into i +ℤ at_place from j))) → IsWord (new i j)
      by_one (inl e) = subst (λ (z : ℤ). IsWord z) (sym e) (are.words.words i j h g)
      by_one (inr (s, t, e)) = subst (λ (z : ℤ). IsWord z) (sym e) (cut_is_word (at_place into i +ℤ at_place from j))

  pub diagonal_is : (new : ℕ → ℕ → ℤ) → AreLowered n into from w new → (i : ℕ) → i < n → new i i ≡ pos 0
  diagonal_is new lowered i h = by_one (lowered.words i i h h).one
    where
      by_one : (new i i ≡ w i i) ⊎ (IsSum (at_place into i) × IsSum (at_place from i) × (new i i ≡ cut_of (at_place into i +ℤ at_place from i))) → new i i ≡ pos 0
      by_one (inl e) = e ∙ are.zeros i h
      by_one (inr (s, t, e)) =
          let kept = (lowered.words i i h h).kept in
          let z = are.zeros i h in
          let more = cut_positive (at_place into i +ℤ at_place from i) (trip_positive i h s t) in
          omega (arith, ints, kept, z, more, e)

pub matrix_is : (size at : ℕ) (old new into from : List ℤ) → length new ≡ (size + 1) * (size + 1) → AreFound (size + 1) at (word (size + 1) old) into from → AreLowered (size + 1) into from (word (size + 1) old) (word (size + 1) new) → IsMatrix size new
matrix_is size at old new into from width are lowered = record {
  width = width;
  words = λ k h. each k h;
  diagonal = λ i h. diagonal_is (size + 1) at (word (size + 1) old) into from are (word (size + 1) new) lowered i h;
}
  where
    each : (k : ℕ) → k < length new → IsWord (get_or new k (pos 0))
    each k h =
        let row : k / (size + 1) < size + 1 = div_below k (size + 1) (size + 1) (omega arith) (omega (arith, width)) in
        let column : k % (size + 1) < size + 1 = mod_below k (size + 1) (omega arith) in
        let place : k / (size + 1) * (size + 1) + k % (size + 1) ≡ k = div-add-mod' k (size + 1) in
        subst (λ (p : ℕ). IsWord (get_or new p (pos 0))) place
        (word_is (size + 1) at (word (size + 1) old) into from are (word (size + 1) new) lowered (k / (size + 1)) (k % (size + 1)) row column)

-- ---- a round trip that is negative
pub cycle_found : (n at : ℕ) (w : ℕ → ℕ → ℤ) (into : List ℤ) → at < n → AreInto n at w into → (v : ℕ) → v < n → IsNegativeAt at w into v → NegativeCycle n w
cycle_found n at w into within into_ v h (b, s, low) =
    let over = (into_.sums v h).one s in
    record {
      at = at;
      between = v ∷ over.0 ∷ [];
      within = within;
      path = record { places = (h, (over.1, tt)); bounds = (b, (over.2, over.3)) };
      negative = let e = over.4 in omega (arith, ints, low, e);
    }

pub cycle_is_negative : (n : ℕ) (w : ℕ → ℕ → ℤ) → NegativeCycle n w → HasNoNegativeCycle n w → ⊥
cycle_is_negative n w bad tame = let sum = tame.cycle bad.at bad.between bad.within bad.path in let low = bad.negative in omega (arith, ints, sum, low)

pub found : (size at : ℕ) (m into from : List ℤ) → IsMatrix size m → at ≤ size → IsTightBut (size + 1) at (word (size + 1) m) → AreInto (size + 1) at (word (size + 1) m) into → AreFrom (size + 1) at (word (size + 1) m) from → ((v : ℕ) → v < size + 1 → IsNegativeAt at (word (size + 1) m) into v → ⊥) → AreFound (size + 1) at (word (size + 1) m) into from
found size at m into from is h tight into_ from_ tame = record { within = omega arith; zeros = is.diagonal; words = words_of size m is; tight = tight; into_ = into_; from_ = from_; tame = tame }
