-- A list after one place was written.
use Rattle.std.proofs.Common.{◌≡◌, ℕ, zero, suc, ◌+◌, List, [], ◌∷◌, ◌++◌, map, replicate, get_or, slice_set, refl, ap, sym, ◌∙◌, arith}

pub map_set : {X Y : Type 0} (f : X → Y) (xs : List X) (k : ℕ) (x : X) → map f (slice_set xs k x) ≡ slice_set (map f xs) k (f x)
map_set f [] k x = refl
map_set f (y ∷ ys) zero x = refl
map_set f (y ∷ ys) (suc k) x = ap (λ l. f y ∷ l) (map_set f ys k x)

pub set_same : {X : Type 0} (xs : List X) (k : ℕ) (x d : X) → get_or xs k d ≡ x → slice_set xs k x ≡ xs
set_same [] k x d e = refl
set_same (y ∷ ys) zero x d e = ap (λ z. z ∷ ys) (sym e)
set_same (y ∷ ys) (suc k) x d e = ap (λ zs. y ∷ zs) (set_same ys k x d e)

one_more : {X : Type 0} (n : ℕ) (x : X) → replicate n x ++ x ∷ [] ≡ replicate (suc n) x
one_more zero x = refl
one_more (suc n) x = ap (λ l. x ∷ l) (one_more n x)

pub more_of : {X : Type 0} (xs : List X) (n : ℕ) (x : X) → xs ≡ replicate n x → xs ++ x ∷ [] ≡ replicate (n + 1) x
more_of xs n x e = let next : suc n ≡ n + 1 = omega arith in ap (λ l. l ++ x ∷ []) e ∙ one_more n x ∙ ap (λ k. replicate k x) next
