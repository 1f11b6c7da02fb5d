-- Values that stand in words stand in their closing, whatever the words are.
use Rattle.std.proofs.Common.{◌≡◌, ◌≢◌, ℕ, zero, suc, ◌+◌, ◌<◌, ◌≤◌, Bool, true, false, ◌&&◌, List, ℤ, pos, ◌+ℤ◌, ◌≤ℤ◌, Option, Some, None, ◌⊎◌, inl, inr, refl, sym, subst, ◌∙◌, arith}
use Rattle.std.specs.Prelude.{IsSomeAnd, int_lt, int_le, if◌then◌else◌}
use Rattle.std.specs.Int.{int_min}
use Rattle.std.proofs.lemmas.Int.{ints}
use Rattle.std.proofs.lemmas.Bool.{cases_eq}
use Rattle.interval_domain.proofs.IntervalEnds.{min_is_one}
use Rattle.diff_bounds.specs.Matrix.{word, none, largest, IsBound}
use Rattle.diff_bounds.specs.Paths.{cut_of}
use Rattle.diff_bounds.specs.Sums.{no_path, IsSum}
use Rattle.diff_bounds.specs.Storages.{value_at, DifferBy, StandsIn}
use Rattle.diff_bounds.proofs.Standing.{differ_more}
use Rattle.diff_bounds.proofs.Steps.{cut_bound}
use Rattle.diff_bounds.specs.Closed.{opened, lesser, through, is_tame, sums_further, sums_through, cut_sums, closed}
use Rattle.diff_steps.specs.Matrices.{with_words}
use Rattle.pack_laws.proofs.Words.{word_at}
use Rattle.pack_laws.proofs.PacksPutRise.{IsFlat}
use Rattle.diff_bounds.proofs.Numbers.{cut_above}

differ_sum : (c d : ℤ) (x y z : Option ℤ) → DifferBy c x y → DifferBy d y z → DifferBy (c +ℤ d) x z
differ_sum c d (Some x) (Some y) (Some z) h k = omega (arith, ints, h, k)
differ_sum c d (Some x) (Some y) None h k = k
differ_sum c d (Some x) None z h k = absurd h
differ_sum c d None y z h k = absurd h

differ_self : (c : ℤ) (x : Option ℤ) → DifferBy c x x → pos 0 ≤ℤ c
differ_self c (Some x) h = omega (arith, ints, h)
differ_self c None h = absurd h

module _ (n : ℕ) (values : ℕ → Option ℤ) where
  -- a sum that bounds the difference of two places' values, or one from a place to itself that isn't below 0
  abbrev Bounds : ℤ → ℕ → ℕ → Type 0
  Bounds c i j = ((i ≡ j) × (pos 0 ≤ℤ c)) ⊎ DifferBy c (values i) (values j)

  bounds_add : (c d : ℤ) (i v j : ℕ) → Bounds c i v → Bounds d v j → Bounds (c +ℤ d) i j
  bounds_add c d i v j (inl (e, h)) (inl (f, k)) = inl (e ∙ f, omega (arith, ints, h, k))
  bounds_add c d i v j (inl (e, h)) (inr k) = inr (subst (λ (x : ℕ). DifferBy (c +ℤ d) (values x) (values j)) (sym e) (differ_more d (c +ℤ d) (values v) (values j) (omega (arith, ints, h)) k))
  bounds_add c d i v j (inr h) (inl (f, k)) = inr (subst (λ (x : ℕ). DifferBy (c +ℤ d) (values i) (values x)) f (differ_more c (c +ℤ d) (values i) (values v) (omega (arith, ints, k)) h))
  bounds_add c d i v j (inr h) (inr k) = inr (differ_sum c d (values i) (values v) (values j) h k)

  record AreTrue (a : ℕ → ℕ → ℤ) : Type 0 where
    sums : (i j : ℕ) → i < n → j < n → IsSum (a i j) → Bounds (a i j) i j

  is_sum : (z : ℤ) → int_lt z no_path ≡ true → IsSum z
  is_sum z e = grind (arith, ints)

  lesser_bounds : (best first second : ℤ) (i v j : ℕ) → (IsSum best → Bounds best i j) → (IsSum first → Bounds first i v) → (IsSum second → Bounds second v j) → IsSum (lesser best first second) → Bounds (lesser best first second) i j
  lesser_bounds best first second i v j h k l = go (int_lt first no_path) (int_lt second no_path) refl refl
    where
      go : (b c : Bool) → int_lt first no_path ≡ b → int_lt second no_path ≡ c
          → IsSum (if b then (if c then int_min best (first +ℤ second) else best) else best) → Bounds (if b then (if c then int_min best (first +ℤ second) else best) else best) i j
      go true true e f = min_is_one (λ (x : ℤ). IsSum x → Bounds x i j) best (first +ℤ second) h (λ s. bounds_add first second i v j (k (is_sum first e)) (l (is_sum second f)))
      go true false e f = h
      go false c e f = h

  through_true : (via : ℕ) (a : ℕ → ℕ → ℤ) → via < n → AreTrue a → AreTrue (through via a)
  through_true via a lt are = record {
    sums = λ i j h g. lesser_bounds (a i j) (a i via) (a via j) i via j (are.sums i j h g) (are.sums i via h lt) (are.sums via j lt g);
  }

  not_negative : (a : ℕ → ℕ → ℤ) → AreTrue a → (i : ℕ) → i < n → pos 0 ≤ℤ a i i
  not_negative a are i h = go (int_lt (a i i) no_path) refl
    where
      above : (z : ℤ) → int_lt z no_path ≡ false → pos 0 ≤ℤ z
      above z e = grind (arith, ints)

      by_bound : Bounds (a i i) i i → pos 0 ≤ℤ a i i
      by_bound (inl (e, k)) = k
      by_bound (inr k) = differ_self (a i i) (values i) k

      go : (b : Bool) → int_lt (a i i) no_path ≡ b → pos 0 ≤ℤ a i i
      go true e = by_bound (are.sums i i h h (is_sum (a i i) e))
      go false e = above (a i i) e

  tame_true : (a : ℕ → ℕ → ℤ) → AreTrue a → (k : ℕ) → k ≤ n → is_tame a k ≡ true
  tame_true a are zero h = refl
  tame_true a are (suc k) h = both (int_le (pos 0) (a k k)) (is_tame a k) (is_le (a k k) (not_negative a are k (omega (arith, h)))) (tame_true a are k (omega (arith, h)))
    where
      is_le : (z : ℤ) → pos 0 ≤ℤ z → int_le (pos 0) z ≡ true
      is_le z g = grind (arith, ints, g)

      both : (b c : Bool) → b ≡ true → c ≡ true → (b && c) ≡ true
      both true true e f = refl
      both true false e f = absurd cc
      both false c e f = absurd cc

  sums_true : (w : ℕ → ℕ → ℤ) → AreTrue (λ i j. opened (w i j)) → (k : ℕ) → k ≤ n → IsSomeAnd (sums_through n k w) AreTrue
  unfolding sums_through
  sums_true w are zero h = are
  sums_true w are (suc k) h = go (sums_through n k w) (sums_true w are k (omega (arith, h)))
    where
      go : (o : Option (ℕ → ℕ → ℤ)) → IsSomeAnd o AreTrue → IsSomeAnd (sums_further n k o) AreTrue
      go None is = absurd is
      go (Some a) is =
          let more = through_true k a (omega (arith, h)) is in
          subst (λ (b : Bool). IsSomeAnd (if b then Some (through k a) else None) AreTrue) (sym (tame_true (through k a) more n (omega arith))) more

module _ (size : ℕ) (m : List ℤ) (cells : ℕ → Option ℤ) where
  opened_true : StandsIn (size + 1) (word (size + 1) m) cells → IsFlat size m → AreTrue (size + 1) (value_at cells) (λ i j. opened (word (size + 1) m i j))
  opened_true stands is = record { sums = λ i j h g. by_word (word (size + 1) m i j) i j (λ b. known i j h g b) }
    where
      known : (i j : ℕ) → i < size + 1 → j < size + 1 → IsBound (word (size + 1) m i j) → Bounds (size + 1) (value_at cells) (word (size + 1) m i j) i j
      known i j h g b =
          elim (cases_eq i j) as (λ _. Bounds (size + 1) (value_at cells) (word (size + 1) m i j) i j) [
            | inl e ↦ inl (e, subst (λ (k : ℕ). pos 0 ≤ℤ word (size + 1) m i k) e (let nothing = is.zeros i h in omega (arith, ints, nothing)))
            | inr ne ↦ inr (stands.bounded i j h g ne b)
          ]

      by_word : (z : ℤ) (i j : ℕ) → (IsBound z → Bounds (size + 1) (value_at cells) z i j) → IsSum (opened z) → Bounds (size + 1) (value_at cells) (opened z) i j
      by_word z i j k = go (int_lt z none) refl
        where
          is_bound : int_lt z none ≡ true → IsBound z
          is_bound e = grind (arith, ints)

          go : (b : Bool) → int_lt z none ≡ b → IsSum (if b then z else no_path) → Bounds (size + 1) (value_at cells) (if b then z else no_path) i j
          go true e s = k (is_bound e)
          go false e s = absurd (omega (arith, ints, s))

  cut_true : (a : ℕ → ℕ → ℤ) → AreTrue (size + 1) (value_at cells) a → StandsIn (size + 1) (word (size + 1) (with_words size (λ i j. cut_of (a i j)))) cells
  cut_true a are = record {
    bounded = λ i j h g ne. subst (λ (c : ℤ). IsBound c → DifferBy c (value_at cells i) (value_at cells j)) (sym (word_at size (λ i j. cut_of (a i j)) i j h g))
        (λ b. by_sum i j ne (cut_bound (a i j) b) (are.sums i j h g (let most = cut_bound (a i j) b in omega (arith, ints, most))));
  }
    where
      by_sum : (i j : ℕ) → i ≢ j → a i j ≤ℤ largest → Bounds (size + 1) (value_at cells) (a i j) i j → DifferBy (cut_of (a i j)) (value_at cells i) (value_at cells j)
      by_sum i j ne most (inl (e, k)) = absurd (ne e)
      by_sum i j ne most (inr k) = differ_more (a i j) (cut_of (a i j)) (value_at cells i) (value_at cells j) (cut_above (a i j) most) k

  pub closed_stands : StandsIn (size + 1) (word (size + 1) m) cells → IsFlat size m → IsSomeAnd (closed size m) (λ c. StandsIn (size + 1) (word (size + 1) c) cells)
  closed_stands stands is = go (sums_through (size + 1) (size + 1) (word (size + 1) m)) (sums_true (size + 1) (value_at cells) (word (size + 1) m) (opened_true stands is) (size + 1) (omega arith))
    where
      go : (o : Option (ℕ → ℕ → ℤ)) → IsSomeAnd o (AreTrue (size + 1) (value_at cells)) → IsSomeAnd (cut_sums size o) (λ c. StandsIn (size + 1) (word (size + 1) c) cells)
      go None h = absurd h
      go (Some a) h = cut_true a h
