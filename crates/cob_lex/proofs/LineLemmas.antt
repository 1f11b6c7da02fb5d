-- The first line of a source, at its first LF.
use Rattle.std.proofs.Common.{◌≡◌, ℕ, suc, cond, ◌+◌, ◌<◌, ◌≤◌, Bool, true, false, eqb, List, [], ◌∷◌, length, take, drop, get_or, refl, ◌∙◌, ap, subst, arith}
use Rattle.std.proofs.lemmas.Bool.{false_from_ne_true}
use Rattle.std.proofs.lemmas.Bool.Decides.{nat_tests}
use Rattle.std.proofs.lemmas.List.Elements.{All-from_get_or}
use Rattle.std.proofs.lemmas.List.Splits.{slice_split_none, slice_split_first, length-slice_split}
use Rattle.std.proofs.lemmas.List.Sums.{position_or_len_is}
use Rattle.std.specs.List.{slice_split, position_or_len, All}
use Rattle.std.specs.Str.Lines.{lines, lines_of_parts, strip_carriage_return}

abbrev is_newline : ℕ → Bool
is_newline b = eqb b 10

lines_of_parts_more : (x : List ℕ) (parts : List (List ℕ)) → 0 < length parts → lines_of_parts (x ∷ parts) ≡ strip_carriage_return x ∷ lines_of_parts parts
lines_of_parts_more x [] h = absurd (omega arith)
lines_of_parts_more x (y ∷ more) h = refl

not_zero : (n : ℕ) → eqb (suc n) 0 ≡ false
not_zero n = grind (arith, nat_tests)

-- no LF stands at a place below n
abbrev pub NoneBefore : List ℕ → ℕ → Type 0
NoneBefore bs n = (k : ℕ) → 0 ≤ k → k < n → eqb (get_or bs k 0) 10 ≡ true → ⊥

pub lines_at : (bs : List ℕ) (n : ℕ) → n < length bs → NoneBefore bs n → eqb (get_or bs n 0) 10 ≡ true → lines bs ≡ strip_carriage_return (take n bs) ∷ lines (drop (n + 1) bs)
lines_at bs n short before here =
    let first : position_or_len is_newline bs ≡ n = position_or_len_is is_newline bs n 0 (omega arith) (λ k l. false_from_ne_true _ (before k (omega arith) l)) (λ _. here) in
    let parts : slice_split is_newline bs ≡ take n bs ∷ slice_split is_newline (drop (n + 1) bs) =
    subst (λ (i : ℕ). slice_split is_newline bs ≡ take i bs ∷ slice_split is_newline (drop (i + 1) bs)) first (slice_split_first is_newline bs 0 (omega arith)) in
    ap lines_of_parts parts
    ∙ lines_of_parts_more (take n bs) (slice_split is_newline (drop (n + 1) bs)) (omega (arith, length-slice_split is_newline (drop (n + 1) bs)))

pub lines_none : (bs : List ℕ) → 0 < length bs → NoneBefore bs (length bs) → lines bs ≡ bs ∷ []
lines_none [] h before = absurd (omega arith)
lines_none (x ∷ xs) h before =
    let all : All (λ b. is_newline b ≡ false) (x ∷ xs) = All-from_get_or (λ b. is_newline b ≡ false) (x ∷ xs) 0 (λ k l. false_from_ne_true _ (before k (omega arith) l)) in
    ap lines_of_parts (slice_split_none is_newline (x ∷ xs) all)
    ∙ ap (λ b. cond b [] ((x ∷ xs) ∷ [])) (not_zero (length xs))
