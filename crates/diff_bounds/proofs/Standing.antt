-- Values that stand in a matrix.
use Rattle.std.proofs.Common.{◌≡◌, ◌≢◌, ℕ, ◌<◌, List, [], ◌∷◌, ℤ, pos, ◌+ℤ◌, ◌≤ℤ◌, Option, Some, None, ◌⊎◌, inl, inr, sym, subst, ◌∙◌, arith}
use Rattle.std.proofs.lemmas.Int.{ints, clamps}
use Rattle.std.proofs.lemmas.Bool.{cases_eq}
use Rattle.diff_bounds.specs.Matrix.{largest, IsBound, IsWord}
use Rattle.diff_bounds.specs.Paths.{path_sum, AreBounds, AreBelow, cut_of, IsClosure}
use Rattle.diff_bounds.specs.Sums.{NegativeCycle}
use Rattle.diff_bounds.specs.Storages.{value_at, DifferBy, StandsIn}
use Rattle.diff_bounds.proofs.Steps.{cut_bound}

pub differ_more : (c d : ℤ) (x y : Option ℤ) → c ≤ℤ d → DifferBy c x y → DifferBy d x y
differ_more c d (Some x) (Some y) h k = omega (arith, ints, k)
differ_more c d (Some x) None h k = k
differ_more c d None y h k = k

differ_sum : (c d : ℤ) (x y z : Option ℤ) → DifferBy c x y → DifferBy d y z → DifferBy (c +ℤ d) x z
differ_sum c d (Some x) (Some y) (Some z) h k = omega (arith, ints, h, k)
differ_sum c d (Some x) (Some y) None h k = k
differ_sum c d (Some x) None z h k = absurd h
differ_sum c d None y z h k = absurd h

differ_self : (c : ℤ) (x : Option ℤ) → DifferBy c x x → pos 0 ≤ℤ c
differ_self c (Some x) h = omega (arith, ints, h)
differ_self c None h = absurd h

-- the values at a path's ends, or one place as both
abbrev Ends : (ℕ → Option ℤ) → ℤ → ℕ → ℕ → Type 0
Ends values s i j = ((i ≡ j) × (pos 0 ≤ℤ s)) ⊎ DifferBy s (values i) (values j)

ends_more : (values : ℕ → Option ℤ) (c s : ℤ) (i v j : ℕ) → ((i ≡ v) × (pos 0 ≤ℤ c)) ⊎ DifferBy c (values i) (values v) → Ends values s v j → Ends values (c +ℤ s) i j
ends_more values c s i v j (inl (e, h)) (inl (f, k)) = inl (e ∙ f, omega (arith, ints))
ends_more values c s i v j (inl (e, h)) (inr k) = inr (subst (λ (x : ℕ). DifferBy (c +ℤ s) (values x) (values j)) (sym e) (differ_more s (c +ℤ s) (values v) (values j) (omega (arith, ints)) k))
ends_more values c s i v j (inr h) (inl (f, k)) = inr (subst (λ (x : ℕ). DifferBy (c +ℤ s) (values i) (values x)) f (differ_more c (c +ℤ s) (values i) (values v) (omega (arith, ints)) h))
ends_more values c s i v j (inr h) (inr k) = inr (differ_sum c s (values i) (values v) (values j) h k)

word_ends : (n : ℕ) (w : ℕ → ℕ → ℤ) (cells : ℕ → Option ℤ) → StandsIn n w cells → ((i : ℕ) → i < n → w i i ≡ pos 0) → (i j : ℕ) → i < n → j < n → IsBound (w i j) → Ends (value_at cells) (w i j) i j
word_ends n w cells stands zeros i j h g b =
    elim (cases_eq i j) as (λ _. Ends (value_at cells) (w i j) i j) [
      | inl e ↦ inl (e, let zero_sum : w i j ≡ pos 0 = subst (λ (x : ℕ). w i x ≡ pos 0) e (zeros i h) in omega (arith, ints))
      | inr ne ↦ inr (stands.bounded i j h g ne b)
    ]

path_ends : (n : ℕ) (w : ℕ → ℕ → ℤ) (cells : ℕ → Option ℤ) → StandsIn n w cells → ((i : ℕ) → i < n → w i i ≡ pos 0) → (i : ℕ) (p : List ℕ) (j : ℕ) → i < n → j < n → AreBelow n p → AreBounds w i p j → Ends (value_at cells) (path_sum w i p j) i j
path_ends n w cells stands zeros i [] j h g below b = word_ends n w cells stands zeros i j h g b
path_ends n w cells stands zeros i (v ∷ p) j h g (lt, below) (b, d) =
    ends_more (value_at cells) (w i v) (path_sum w v p j) i v j (word_ends n w cells stands zeros i v h lt b) (path_ends n w cells stands zeros v p j lt g below d)

pub none_stands : (n : ℕ) (w : ℕ → ℕ → ℤ) (cells : ℕ → Option ℤ) → ((i : ℕ) → i < n → w i i ≡ pos 0) → NegativeCycle n w → StandsIn n w cells → ⊥
none_stands n w cells zeros bad stands = by_ends (path_ends n w cells stands zeros bad.at bad.between bad.at bad.within bad.within bad.path.places bad.path.bounds)
  where
    by_ends : Ends (value_at cells) (path_sum w bad.at bad.between bad.at) bad.at bad.at → ⊥
    by_ends (inl (e, h)) = omega (arith, ints, bad.negative)
    by_ends (inr h) = let k = differ_self (path_sum w bad.at bad.between bad.at) (value_at cells bad.at) h in omega (arith, ints, k, bad.negative)

cut_above : (z : ℤ) → z ≤ℤ largest → z ≤ℤ cut_of z
cut_above z h = grind (arith, ints, clamps)

cut_same : (z : ℤ) → IsWord z → IsBound z → cut_of z ≡ z
cut_same z word b = let high : z ≤ℤ largest = word.high b in let low = word.low in grind (arith, ints, clamps)

pub stands_after : (n : ℕ) (old new : ℕ → ℕ → ℤ) (cells : ℕ → Option ℤ) → ((i : ℕ) → i < n → old i i ≡ pos 0) → IsClosure n old new → StandsIn n old cells → StandsIn n new cells
stands_after n old new cells zeros closed stands = record { bounded = bounded }
  where
    bounded : (i j : ℕ) → i < n → j < n → i ≢ j → IsBound (new i j) → DifferBy (new i j) (value_at cells i) (value_at cells j)
    bounded i j h g ne b =
        let r = (closed.sums i j h g).reached b in
        let high = cut_bound (path_sum old i r.0 j) (subst (λ (x : ℤ). IsBound x) r.2 b) in
        by_ends r.0 r.2 high (path_ends n old cells stands zeros i r.0 j h g r.1.places r.1.bounds)
      where
        by_ends : (p : List ℕ) → new i j ≡ cut_of (path_sum old i p j) → path_sum old i p j ≤ℤ largest → Ends (value_at cells) (path_sum old i p j) i j → DifferBy (new i j) (value_at cells i) (value_at cells j)
        by_ends p e high (inl (same, k)) = absurd (ne same)
        by_ends p e high (inr k) = differ_more (path_sum old i p j) (new i j) (value_at cells i) (value_at cells j) (let more = cut_above (path_sum old i p j) high in subst (λ (x : ℤ). path_sum old i p j ≤ℤ x) (sym e) more) k

pub stands_before : (n : ℕ) (old new : ℕ → ℕ → ℤ) (cells : ℕ → Option ℤ) → ((i j : ℕ) → i < n → j < n → IsWord (old i j)) → IsClosure n old new → StandsIn n new cells → StandsIn n old cells
stands_before n old new cells words closed stands = record { bounded = bounded }
  where
    bounded : (i j : ℕ) → i < n → j < n → i ≢ j → IsBound (old i j) → DifferBy (old i j) (value_at cells i) (value_at cells j)
    bounded i j h g ne b =
        let word = words i j h g in
        let most = word.high b in
        let less : new i j ≤ℤ cut_of (old i j) = (closed.sums i j h g).least [] (record { places = tt; bounds = b }) in
        let low : new i j ≤ℤ old i j = subst (λ (x : ℤ). new i j ≤ℤ x) (cut_same (old i j) word b) less in
        differ_more (new i j) (old i j) (value_at cells i) (value_at cells j) low (stands.bounded i j h g ne (omega (arith, ints)))
