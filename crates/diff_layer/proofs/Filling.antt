-- Slices that are filled element by element.
use Rattle.std.proofs.Common.{◌≡◌, ◌<◌, ◌≤◌, ℕ, zero, suc, ◌+◌, List, [], ◌∷◌, length, take, map, get_or, refl, sym, ap, subst, ◌∙◌, take_all, arith}
use Rattle.std.specs.Prelude.{slice_set}
use Rattle.std.proofs.lemmas.List.{length-map, length-set}

module _ {X Y : Type 0} (f : X → Y) where
  -- the first k elements are those of the map
  pub record IsFilledTo (xs : List X) (ys : List Y) (k : ℕ) : Type 0 where
    pub width : length ys ≡ length xs
    pub so_far : take k ys ≡ take k (map f xs)

  -- one more is filled
  filled_more : (xs : List X) (ys : List Y) (k : ℕ) (d : X) (y : Y) → k < length xs → length ys ≡ length xs → take k ys ≡ take k (map f xs)
      → y ≡ f (get_or xs k d) → take (suc k) (slice_set ys k y) ≡ take (suc k) (map f xs)
  filled_more [] ys k d y within same so_far is = absurd (omega (arith, within))
  filled_more (x ∷ xs) [] k d y within same so_far is = absurd (omega (arith, same))
  filled_more (x ∷ xs) (z ∷ ys) zero d y within same so_far is = ap (λ e. e ∷ []) is
  filled_more (x ∷ xs) (z ∷ ys) (suc k) d y within same so_far is =
      (λ i. head_of so_far i ∷ filled_more xs ys k d y (omega (arith, within)) (omega (arith, same)) (tail_of so_far) is i)
    where
      tail : List Y → List Y
      tail [] = []
      tail (e ∷ es) = es

      first : Y → List Y → Y
      first e [] = e
      first e (b ∷ bs) = b

      head_of : z ∷ take k ys ≡ f x ∷ take k (map f xs) → z ≡ f x
      head_of e = ap (first z) e

      tail_of : z ∷ take k ys ≡ f x ∷ take k (map f xs) → take k ys ≡ take k (map f xs)
      tail_of e = ap tail e

  -- a list is the map once all its elements are filled
  all_filled : (xs : List X) (ys : List Y) (k : ℕ) → length ys ≡ length xs → length xs ≤ k → take k ys ≡ take k (map f xs) → ys ≡ map f xs
  all_filled xs ys k same past so_far =
      sym (take_all k ys (omega (arith, same, past)))
      ∙ (so_far ∙ take_all k (map f xs) (let e = length-map xs f in omega (arith, e, past)))

  pub fill_begins : (xs : List X) (ys : List Y) → length ys ≡ length xs → IsFilledTo xs ys 0
  fill_begins xs ys e = record { width = e; so_far = refl }

  pub fill_goes_on : (xs : List X) (ys zs : List Y) (k : ℕ) (d : X) (y : Y) → IsFilledTo xs ys k → k < length xs → zs ≡ slice_set ys k y → y ≡ f (get_or xs k d) → IsFilledTo xs zs (k + 1)
  fill_goes_on xs ys zs k d y is within e g =
      subst (λ (us : List Y). IsFilledTo xs us (k + 1)) (sym e)
      (record { width = length-set ys k y ∙ is.width; so_far = next })
    where
      next : take (k + 1) (slice_set ys k y) ≡ take (k + 1) (map f xs)
      next =
          let one : suc k ≡ k + 1 = omega arith in
          subst (λ n. take n (slice_set ys k y) ≡ take n (map f xs)) one (filled_more xs ys k d y within is.width is.so_far g)

  pub fill_ends : (xs : List X) (ys : List Y) (k : ℕ) → IsFilledTo xs ys k → length xs ≤ k → ys ≡ map f xs
  fill_ends xs ys k is past = all_filled xs ys k is.width past is.so_far
