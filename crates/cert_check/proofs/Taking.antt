-- Steps of loops over the places of a certificate.
use Rattle.std.proofs.Common.{◌≡◌, ℕ, ◌+◌, ◌<◌, List, [], ◌∷◌, ◌++◌, map, length, take, get_or, ℤ, append-nil, sym, ap, ◌∙◌}
use Rattle.std.specs.Prelude.{Vec}
use Rattle.std.specs.List.{flat_map}
use Rattle.std.specs.declared.alloc.Global.{Global}
use Rattle.std.proofs.lemmas.List.{map-append, take_more}
use Rattle.std.proofs.lemmas.Grind.{flat_map-append}
use Rattle.cert_text.specs.declared.cert.Element.{Element}
use Rattle.cert_text.specs.View.{Place, place_of}
use Rattle.cert_check.specs.Rows.{words_of}

one_more : {A : Type 0} (xs : List A) (i : ℕ) (x : A) → i < length xs → x ≡ get_or xs i x → take (i + 1) xs ≡ take i xs ++ x ∷ []
one_more xs i x within is = take_more xs i x within ∙ ap (λ y. take i xs ++ y ∷ []) (sym is)

-- lists, one behind the other
pub joined_more : {A B : Type 0} (f : A → List B) (xs : List A) (i : ℕ) (x : A) (old new : List B) → i < length xs → x ≡ get_or xs i x →
    old ≡ flat_map f (take i xs) → new ≡ old ++ f x → new ≡ flat_map f (take (i + 1) xs)
joined_more f xs i x old new within is done more =
    more ∙ ap (λ ys. ys ++ f x) done
    ∙ ap (λ ys. flat_map f (take i xs) ++ ys) (sym (append-nil (f x)))
    ∙ sym (flat_map-append f (take i xs) (x ∷ []))
    ∙ sym (ap (flat_map f) (one_more xs i x within is))

-- a row for each place
pub row_pushed : (f : Place → List ℤ) (xs : List Element) (i : ℕ) (x : Element) (old new : List (Vec ℤ Global)) (row : Vec ℤ Global) → i < length xs →
    x ≡ get_or xs i x → new ≡ old ++ row ∷ [] → words_of old ≡ map f (map place_of (take i xs)) → row.items ≡ f (place_of x) →
    words_of new ≡ map f (map place_of (take (i + 1) xs))
row_pushed f xs i x old new row within is grown done here =
    ap words_of grown ∙ map-append (λ v. v.items) old (row ∷ []) ∙ (λ k. done k ++ here k ∷ [])
    ∙ sym (ap (λ ys. map f (map place_of ys)) (one_more xs i x within is)
    ∙ ap (map f) (map-append place_of (take i xs) (x ∷ []))
    ∙ map-append f (map place_of (take i xs)) (place_of x ∷ []))
