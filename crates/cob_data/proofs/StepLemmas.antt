-- A list that a loop makes of another, one element more.
use Rattle.std.proofs.Common.{◌≡◌, ℕ, ◌+◌, ◌<◌, suc, List, [], ◌∷◌, ◌++◌, map, length, get_or, take, take-suc, refl, sym, ap, ◌∙◌, arith}

map_last : {A B : Type 0} (f : A → B) (xs : List A) (x : A) → map f (xs ++ x ∷ []) ≡ map f xs ++ f x ∷ []
map_last f [] x = refl
map_last f (y ∷ ys) x = ap (λ t. f y ∷ t) (map_last f ys x)

one_more : {A : Type 0} (xs : List A) (i : ℕ) (x : A) → i < length xs → x ≡ get_or xs i x → take (i + 1) xs ≡ take i xs ++ x ∷ []
one_more xs i x within is =
    let one : i + 1 ≡ suc i = omega arith in
    rw one (take-suc xs i x within ∙ ap (λ m. take i xs ++ m ∷ []) (sym is))

pub mapped_step : {A B : Type 0} (f : A → B) (xs : List A) (i : ℕ) (x : A) (made more : List B) (y : B) → i < length xs → x ≡ get_or xs i x → y ≡ f x → more ≡ made ++ y ∷ [] →
    made ≡ map f (take i xs) → more ≡ map f (take (i + 1) xs)
mapped_step f xs i x made more y within is image pushed so_far =
    rw (pushed, so_far, image, one_more xs i x within is) (sym (map_last f (take i xs) x))

pub copied_step : {A : Type 0} (xs : List A) (i : ℕ) (x : A) (made more : List A) (y : A) → i < length xs → x ≡ get_or xs i x → y ≡ x → more ≡ made ++ y ∷ [] →
    made ≡ take i xs → more ≡ take (i + 1) xs
copied_step xs i x made more y within is same pushed so_far = rw (pushed, so_far, same, one_more xs i x within is) refl
