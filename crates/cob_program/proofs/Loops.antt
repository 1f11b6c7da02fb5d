-- Steps of loops: what is left gives the whole.
use Rattle.std.proofs.Common.{ℕ, ◌+◌, ◌≡◌, ◌<◌, ◌≤◌, List, [], ◌∷◌, ◌++◌, length, drop, get_or, sym, ap, ◌∙◌, append_assoc}
use Rattle.std.proofs.lemmas.List.{drop_more, append-nil}

-- the item at a place, and what stands behind it
pub item_step : {A : Type 0} (xs : List A) (i : ℕ) (x : A) → i < length xs → x ≡ get_or xs i x →
    drop i xs ≡ x ∷ drop (i + 1) xs
item_step xs i x within is = drop_more xs i x within ∙ ap (λ y. y ∷ drop (i + 1) xs) (sym is)

-- what was added and what is left to be added, with one more added
pub added : {A : Type 0} (old new here rest all left : List A) → new ≡ old ++ here → left ≡ here ++ rest →
    old ++ left ≡ all → new ++ rest ≡ all
added old new here rest all left grown cut whole =
    ap (λ xs. xs ++ rest) grown ∙ append_assoc old here rest ∙ ap (λ xs. old ++ xs) (sym cut) ∙ whole

pub nothing_left : {A : Type 0} (old all left : List A) → left ≡ [] → old ++ left ≡ all → old ≡ all
nothing_left old all left none whole = sym (append-nil old) ∙ ap (λ xs. old ++ xs) (sym none) ∙ whole
