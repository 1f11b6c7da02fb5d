-- Lists that rise: what a sort leaves without repetitions.
use Rattle.std.proofs.Common.{◌≡◌, ℕ, zero, suc, ◌+◌, ◌<◌, ◌≤◌, List, [], ◌∷◌, length, get_or, true, false, ℤ, pos, ◌≤ℤ◌, ◌<ℤ◌, ◌⊎◌, inl, inr, ⊎_elim, int_lt, Less, refl, sym, ap, ◌∙◌, subst, arith}
use Rattle.std.specs.Prelude.{Contains}
use Rattle.std.specs.List.{fold, AllByRecursion, dedup}
use Rattle.std.specs.List.Sorted.{IsPermutation, IsSorted, IsStrictlySortedBy}
use Rattle.std.specs.Ordering.{int_cmp, int_eq}
use Rattle.std.proofs.lemmas.Int.{ints, by_lt_z}
use Rattle.std.proofs.lemmas.Cmp.{int_cmp_total, int_eq_equiv, int_ranked}
use Rattle.std.proofs.lemmas.List.Kept.{Contains-dedup, Contains-from_dedup, IsStrictlySortedBy-dedup}
use Rattle.std.proofs.lemmas.List.Sorted.{Contains-permutation, IsPermutation-sym}
use Rattle.std.proofs.lemmas.Map.Keys.{sorted_head, sorted_tail}
use Rattle.analyse_core.specs.Rising.{inserted, sorted, RisesFrom, Rises}
use Rattle.analyse_core.proofs.Rising.{Has, all_inserted, below_is, inserted_has, inserted_keeps, inserted_length, inserted_rises, not_below}

-- ---- what holds of each number

module _ (P : ℤ → Type 0) where
  all_put : (ts zs : List ℤ) → AllByRecursion P ts → AllByRecursion P zs → AllByRecursion P (fold (λ us z. inserted z us) ts zs)
  all_put ts [] h k = h
  all_put ts (z ∷ zs) h k = all_put (inserted z ts) zs (all_inserted P z ts k.0 h) k.1

  pub all_sorted : (zs : List ℤ) → AllByRecursion P zs → AllByRecursion P (sorted zs)
  all_sorted zs h = all_put [] zs tt h

put_length : (ts zs : List ℤ) → length (fold (λ us z. inserted z us) ts zs) ≤ length ts + length zs
put_length ts [] = omega arith
put_length ts (z ∷ zs) =
    let more = put_length (inserted z ts) zs in
    let one = inserted_length z ts in
    omega (arith, more, one)

pub sorted_length : (zs : List ℤ) → length (sorted zs) ≤ length zs
sorted_length zs = let most = put_length [] zs in omega (arith, most)

-- ---- it rises still

put_rises : (ts zs : List ℤ) → Rises ts → Rises (fold (λ us z. inserted z us) ts zs)
put_rises ts [] h = h
put_rises ts (z ∷ zs) h = put_rises (inserted z ts) zs (inserted_rises z ts h)

pub sorted_rises : (zs : List ℤ) → Rises (sorted zs)
sorted_rises zs = put_rises [] zs tt

-- ---- what it holds

-- a list with one number inserted holds nothing else
one_behind : (t z u : ℤ) (ts : List ℤ) → (Has (inserted z ts) u → (z ≡ u) ⊎ Has ts u) → (t ≡ u) ⊎ Has (inserted z ts) u → (z ≡ u) ⊎ ((t ≡ u) ⊎ Has ts u)
one_behind t z u ts h (inl e) = inr (inl e)
one_behind t z u ts h (inr more) = ⊎_elim (λ (e : z ≡ u). inl e) (λ (k : Has ts u). inr (inr k)) (h more)

inserted_only : (z u : ℤ) (ts : List ℤ) → Has (inserted z ts) u → (z ≡ u) ⊎ Has ts u
inserted_only z u [] = λ (h : (z ≡ u) ⊎ Has [] u). h
inserted_only z u (t ∷ ts) =
    by_lt_z t z
    (λ (lt : t <ℤ z). rw (below_is t z lt) (one_behind t z u ts (inserted_only z u ts)))
    (λ (le : z ≤ℤ t).
    by_lt_z z t
    (λ (gt : z <ℤ t). rw (not_below t z le, below_is z t gt) (λ (h : (z ≡ u) ⊎ ((t ≡ u) ⊎ Has ts u)). h))
    (λ (ge : t ≤ℤ z). rw (not_below t z le, not_below z t ge) (λ (h : (t ≡ u) ⊎ Has ts u). inr h)))

put_has : (u : ℤ) (ts zs : List ℤ) → Has ts u ⊎ Has zs u → Has (fold (λ us z. inserted z us) ts zs) u
put_has u ts [] (inl h) = h
put_has u ts [] (inr h) = absurd h
put_has u ts (z ∷ zs) (inl h) = put_has u (inserted z ts) zs (inl (inserted_keeps z u ts h))
put_has u ts (z ∷ zs) (inr (inl e)) = put_has u (inserted z ts) zs (inl (subst (Has (inserted z ts)) e (inserted_has z ts)))
put_has u ts (z ∷ zs) (inr (inr h)) = put_has u (inserted z ts) zs (inr h)

first_or_later : (z u : ℤ) (ts zs : List ℤ) → Has (inserted z ts) u ⊎ Has zs u → Has ts u ⊎ ((z ≡ u) ⊎ Has zs u)
first_or_later z u ts zs (inl h) = ⊎_elim (λ (e : z ≡ u). inr (inl e)) (λ (k : Has ts u). inl k) (inserted_only z u ts h)
first_or_later z u ts zs (inr h) = inr (inr h)

put_only : (u : ℤ) (ts zs : List ℤ) → Has (fold (λ us z. inserted z us) ts zs) u → Has ts u ⊎ Has zs u
put_only u ts [] h = inl h
put_only u ts (z ∷ zs) h = first_or_later z u ts zs (put_only u (inserted z ts) zs h)

sorted_has : (u : ℤ) (zs : List ℤ) → Has zs u → Has (sorted zs) u
sorted_has u zs h = put_has u [] zs (inr h)

sorted_only : (u : ℤ) (zs : List ℤ) → Has (sorted zs) u → Has zs u
sorted_only u zs h = ⊎_elim (λ (k : Has [] u). absurd k) (λ (k : Has zs u). k) (put_only u [] zs h)

-- ---- two that rise and hold the same are one

above : (t u : ℤ) (ts : List ℤ) → RisesFrom t ts → Has ts u → t <ℤ u
above t u [] h k = absurd k
above t u (s ∷ ts) (l, h) (inl e) = subst (λ x. t <ℤ x) e l
above t u (s ∷ ts) (l, h) (inr k) = let more = above s u ts h k in omega (arith, ints, l, more)

-- what stands behind the first
later : (x u : ℤ) (xs ys : List ℤ) → RisesFrom x xs → Has xs u → (x ≡ u) ⊎ Has ys u → Has ys u
later x u xs ys r h (inl e) = let l = above x u xs r h in absurd (omega (arith, ints, l, e))
later x u xs ys r h (inr k) = k

same_first : (x y : ℤ) (xs ys : List ℤ) → RisesFrom x xs → RisesFrom y ys → (y ≡ x) ⊎ Has ys x → (x ≡ y) ⊎ Has xs y → x ≡ y
same_first x y xs ys r s (inl e) k = sym e
same_first x y xs ys r s (inr h) (inl e) = e
same_first x y xs ys r s (inr h) (inr k) =
    let a = above y x ys s h in
    let b = above x y xs r k in
    absurd (omega (arith, ints, a, b))

rest : (x : ℤ) (xs : List ℤ) → RisesFrom x xs → Rises xs
rest x [] h = tt
rest x (t ∷ ts) h = h.1

one_list : (xs ys : List ℤ) → Rises xs → Rises ys → ((u : ℤ) → Has xs u → Has ys u) → ((u : ℤ) → Has ys u → Has xs u) → xs ≡ ys
one_list [] [] r s f g = refl
one_list [] (y ∷ ys) r s f g = absurd (g y (inl refl))
one_list (x ∷ xs) [] r s f g = absurd (f x (inl refl))
one_list (x ∷ xs) (y ∷ ys) r s f g =
    let e = same_first x y xs ys r s (f x (inl refl)) (g y (inl refl)) in
    ap (λ z. z ∷ xs) e
    ∙ ap (λ zs. y ∷ zs) (one_list xs ys (rest x xs r) (rest y ys s)
    (λ u h. later x u xs ys r h (subst (λ z. (z ≡ u) ⊎ Has ys u) (sym e) (f u (inr h))))
    (λ u h. later y u ys xs s h (subst (λ z. (z ≡ u) ⊎ Has xs u) e (g u (inr h)))))

-- ---- a sort, and then without repetitions

has_at : (xs : List ℤ) (u d : ℤ) (k : ℕ) → k < length xs → get_or xs k d ≡ u → Has xs u
has_at [] u d k l e = absurd (omega (arith, l))
has_at (x ∷ xs) u d zero l e = inl e
has_at (x ∷ xs) u d (suc k) l e = inr (has_at xs u d k (omega (arith, l)) e)

place_of : (xs : List ℤ) (u : ℤ) → Has xs u → Contains xs u
place_of [] u h = absurd h
place_of (x ∷ xs) u (inl e) = (0, omega arith, e)
place_of (x ∷ xs) u (inr h) = let more = place_of xs u h in let l = more.1 in (suc more.0, omega (arith, l), more.2)

held : (xs : List ℤ) (u : ℤ) → Contains xs u → Has xs u
held xs u (k, l, e) = has_at xs u u k l e

less_is : (x y : ℤ) → int_cmp x y ≡ Less → x <ℤ y
less_is x y e = int_ranked x y Less (sym e)

rising_is : (x : ℤ) (xs : List ℤ) → IsStrictlySortedBy int_cmp (x ∷ xs) → RisesFrom x xs
rising_is x [] h = tt
rising_is x (y ∷ xs) h = (less_is x y (sorted_head int_cmp x (y ∷ xs) h).0, rising_is y xs (sorted_tail int_cmp x (y ∷ xs) h))

strictly_rises : (xs : List ℤ) → IsStrictlySortedBy int_cmp xs → Rises xs
strictly_rises [] h = tt
strictly_rises (x ∷ xs) h = rising_is x xs h

same_is : (x y : ℤ) → int_eq x y ≡ true → x ≡ y
same_is x y e = grind (arith, ints)

pub sorted_out : (zs ys : List ℤ) → IsPermutation zs ys → IsSorted int_cmp ys → dedup int_eq ys ≡ sorted zs
sorted_out zs ys moved up =
    one_list (dedup int_eq ys) (sorted zs) (strictly_rises _ (IsStrictlySortedBy-dedup int_cmp_total (λ x y. refl) ys up)) (sorted_rises zs)
    (λ u h. sorted_has u zs (held zs u (Contains-permutation ys zs u (IsPermutation-sym zs ys moved) (Contains-from_dedup int_eq ys u (place_of _ u h)))))
    (λ u h. held _ u (Contains-dedup int_eq_equiv same_is ys u (Contains-permutation zs ys u moved (place_of zs u (sorted_only u zs h)))))
