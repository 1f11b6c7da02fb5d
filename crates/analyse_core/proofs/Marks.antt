-- Rows of marks, one for each paragraph.
use Rattle.std.proofs.Common.{◌≡◌, ◌+◌, ◌<◌, ℕ, zero, suc, Bool, true, false, ◌&&◌, ◌-◌, List, [], ◌∷◌, ◌++◌, map, length, refl, sym, ap, ◌∙◌, arith}
use Rattle.std.specs.List.{range_with_len}
use Rattle.std.proofs.lemmas.List.FromFn.{map-range_with_len_more, length-map-range_with_len}
use Rattle.analyse_core.specs.declared.mention.Mention.{Mention}
use Rattle.analyse_core.specs.Reaching.{is_same, same_marks, marks_of, is_performed_by, reached_through, reached}

pub one_more : (f : ℕ → Bool) (k : ℕ) (old : List Bool) → old ≡ map f (range_with_len 0 k) → old ++ f k ∷ [] ≡ map f (range_with_len 0 (k + 1))
one_more f k old is = ap (λ xs. xs ++ f k ∷ []) is ∙ sym (map-range_with_len_more f 0 k k (omega arith))

-- ---- two rows

same_is : (a b : Bool) → is_same a b ≡ true → a ≡ b
same_is true true e = refl
same_is false false e = refl
same_is true false e = absurd (cc e)
same_is false true e = absurd (cc e)

both : (a b : Bool) → (a && b) ≡ true → (a ≡ true) × (b ≡ true)
both true b e = (refl, e)
both false b e = absurd (cc e)

pub same_are : (xs ys : List Bool) → length xs ≡ length ys → same_marks xs ys ≡ true → xs ≡ ys
same_are [] [] l e = refl
same_are [] (y ∷ ys) l e = absurd (omega (arith, l))
same_are (x ∷ xs) [] l e = absurd (omega (arith, l))
same_are (x ∷ xs) (y ∷ ys) l e =
    let h = both (is_same x y) (same_marks xs ys) e in
    ap (λ b. b ∷ xs) (same_is x y h.0) ∙ ap (λ zs. y ∷ zs) (same_are xs ys (omega (arith, l)) h.1)

-- ---- rounds

module _ (texts : List (List Mention)) (own : List Mention) where
  pub wide : (n : ℕ) → length (reached_through texts own n) ≡ length texts
  wide zero = length-map-range_with_len _ 0 (length texts)
  wide (suc n) = length-map-range_with_len _ 0 (length texts)

  abbrev at : ℕ → List Bool
  at n = reached_through texts own n

  -- marks that a round leaves are left by each later one
  pub stays : (n m : ℕ) → at (suc n) ≡ at n → at (n + m) ≡ at n
  stays n zero e = let same : n + zero ≡ n = omega arith in ap at same
  stays n (suc m) e =
      let more : n + suc m ≡ suc (n + m) = omega arith in
      ap at more
      ∙ ap (λ marks. marks_of texts own (is_performed_by texts own marks)) (stays n m e)
      ∙ e

  pub ended : (n : ℕ) → n < length texts → at (suc n) ≡ at n → at n ≡ reached texts own
  ended n l e =
      let whole : length texts ≡ n + (length texts - n) = omega (arith, l) in
      sym (ap at whole ∙ stays n (length texts - n) e)

  module _ (n : ℕ) (marks next : List Bool) (is : marks ≡ at n) where
    abbrev IsNext : List Bool → Type 0
    IsNext s = next ≡ marks_of texts own (is_performed_by texts own s)

    pub turned : (s : List Bool) → s ≡ marks → IsNext s → next ≡ at (n + 1)
    turned s e step =
        let more : suc n ≡ n + 1 = omega arith in
        step ∙ ap (λ ms. marks_of texts own (is_performed_by texts own ms)) (e ∙ is) ∙ ap at more

    module _ (s t u : List Bool) (e : s ≡ marks) (f : t ≡ next) (g : u ≡ marks) (step : IsNext s) where
      pub same_width : length t ≡ length u
      same_width =
          ap length f ∙ ap length (turned s e step) ∙ wide (n + 1) ∙ sym (wide n) ∙ sym (ap length is) ∙ sym (ap length g)

      pub ended_at : n < length texts → same_marks t u ≡ true → marks ≡ reached texts own
      ended_at l h =
          let less : n + 1 ≡ suc n = omega arith in
          is ∙ ended n l (sym (turned s e step ∙ ap at less) ∙ sym f ∙ same_are t u same_width h ∙ g ∙ is)
