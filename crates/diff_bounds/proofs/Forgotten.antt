-- What is left where a cell is forgotten.
use Rattle.std.proofs.Common.{◌≡◌, ◌≢◌, ℕ, zero, suc, ◌+◌, ◌*◌, ◌<◌, ◌≤◌, List, [], ◌∷◌, length, get_or, ℤ, pos, ◌≤ℤ◌, Option, ◌⊎◌, inl, inr, refl, sym, ap, subst, ◌∙◌, arith}
use Rattle.std.proofs.lemmas.Int.{ints}
use Rattle.std.proofs.lemmas.Bool.{cases_eq}
use Rattle.diff_bounds.specs.Matrix.{word, none, IsBound, IsWord, IsMatrix}
use Rattle.diff_bounds.specs.Storages.{value_at, DifferBy, StandsIn}
use Rattle.diff_bounds.proofs.Ends.{words_of}
use Rattle.diff_bounds.specs.Forgotten.{AreForgotten, AgreeBut}
use Rattle.diff_bounds.proofs.Puts.{IsRowPut, IsColumnPut}
use Rattle.diff_bounds.proofs.Matrices.{by_places, none_is_word}

abbrev pub nones : List ℤ
nones = none ∷ none ∷ none ∷ none ∷ none ∷ none ∷ none ∷ none ∷ none ∷ []

pub none_at : (j : ℕ) → j < 9 → get_or nones j (pos 0) ≡ none
none_at zero h = refl
none_at (suc zero) h = refl
none_at (suc (suc zero)) h = refl
none_at (suc (suc (suc zero))) h = refl
none_at (suc (suc (suc (suc zero)))) h = refl
none_at (suc (suc (suc (suc (suc zero))))) h = refl
none_at (suc (suc (suc (suc (suc (suc zero)))))) h = refl
none_at (suc (suc (suc (suc (suc (suc (suc zero))))))) h = refl
none_at (suc (suc (suc (suc (suc (suc (suc (suc zero)))))))) h = refl
none_at (suc (suc (suc (suc (suc (suc (suc (suc (suc j))))))))) h = absurd (omega arith)

pub put_is_forgotten : (size at : ℕ) (old middle new : List ℤ) → size ≤ 8 → at ≤ size → IsRowPut (size + 1) old nones at (size + 1) middle → IsColumnPut (size + 1) middle nones at (size + 1) new → AreForgotten size (word (size + 1) old) at (word (size + 1) new)
put_is_forgotten size at old middle new few within first second = record {
  row = λ j h ne. second.others at j (omega arith) (omega arith) ne ∙ first.done j (omega arith) ne ∙ none_at j (omega arith);
  column = λ i h ne. second.done i (omega arith) ne ∙ none_at i (omega arith);
  others = λ i j h k ne apart. second.others i j (omega arith) (omega arith) apart ∙ first.others i j (omega arith) (omega arith) ne;
}

pub forgotten_is_matrix : (size at : ℕ) (old new : List ℤ) → IsMatrix size old → length new ≡ (size + 1) * (size + 1) → word (size + 1) new at at ≡ word (size + 1) old at at → at ≤ size → AreForgotten size (word (size + 1) old) at (word (size + 1) new) → IsMatrix size new
forgotten_is_matrix size at old new is width diagonal within are = record {
  width = width;
  words = by_places size new width (λ i j h g. each i j h g (cases_eq i at) (cases_eq j at));
  diagonal = λ i h. elim (cases_eq i at) as (λ _. word (size + 1) new i i ≡ pos 0) [
    | inl e ↦ subst (λ (p : ℕ). word (size + 1) new p p ≡ pos 0) (sym e) (diagonal ∙ is.diagonal at (omega arith))
    | inr ne ↦ are.others i i (omega arith) (omega arith) ne ne ∙ is.diagonal i h
  ];
}
  where
    each : (i j : ℕ) → i < size + 1 → j < size + 1 → (i ≡ at) ⊎ (i ≡ at → ⊥) → (j ≡ at) ⊎ (j ≡ at → ⊥) → IsWord (word (size + 1) new i j)
    each i j h g (inl e) (inl f) =
        let same : word (size + 1) new i j ≡ word (size + 1) old at at = ap (λ (p : ℕ). word (size + 1) new p j) e ∙ ap (λ (p : ℕ). word (size + 1) new at p) f ∙ diagonal in
        subst (λ (x : ℤ). IsWord x) (sym same) ((words_of size old is).words at at (omega arith) (omega arith))
    each i j h g (inl e) (inr apart) =
        subst (λ (x : ℤ). IsWord x) (sym (ap (λ (p : ℕ). word (size + 1) new p j) e ∙ are.row j (omega arith) apart)) none_is_word
    each i j h g (inr ne) (inl f) =
        subst (λ (x : ℤ). IsWord x) (sym (ap (λ (p : ℕ). word (size + 1) new i p) f ∙ are.column i (omega arith) ne)) none_is_word
    each i j h g (inr ne) (inr apart) =
        subst (λ (x : ℤ). IsWord x) (sym (are.others i j (omega arith) (omega arith) ne apart)) ((words_of size old is).words i j h g)

-- ---- values that stand in what is left

none_bounds_nothing : (x : ℤ) → x ≡ none → IsBound x → ⊥
none_bounds_nothing x e h = omega (arith, ints, e, h)

value_same : (at : ℕ) (cells other : ℕ → Option ℤ) → AgreeBut at cells other → (k : ℕ) → (k ≡ at → ⊥) → value_at cells k ≡ value_at other k
value_same at cells other agree zero ne = refl
value_same at cells other agree (suc k) ne = sym (agree.same (suc k) ne)

pub stands_forgotten : (size at : ℕ) (w u : ℕ → ℕ → ℤ) (cells other : ℕ → Option ℤ) → at ≤ size → AreForgotten size w at u → StandsIn (size + 1) w cells → AgreeBut at cells other → StandsIn (size + 1) u other
stands_forgotten size at w u cells other within are stands agree = record {
  bounded = λ i j h g ne b. each i j h g ne b (cases_eq i at) (cases_eq j at);
}
  where
    each : (i j : ℕ) → i < size + 1 → j < size + 1 → i ≢ j → IsBound (u i j) → (i ≡ at) ⊎ (i ≡ at → ⊥) → (j ≡ at) ⊎ (j ≡ at → ⊥) → DifferBy (u i j) (value_at other i) (value_at other j)
    each i j h g ne b (inl e) (inl f) = absurd (ne (e ∙ sym f))
    each i j h g ne b (inl e) (inr apart) = absurd (none_bounds_nothing (u i j) (ap (λ (p : ℕ). u p j) e ∙ are.row j (omega arith) apart) b)
    each i j h g ne b (inr off) (inl f) = absurd (none_bounds_nothing (u i j) (ap (λ (p : ℕ). u i p) f ∙ are.column i (omega arith) off) b)
    each i j h g ne b (inr off) (inr apart) =
        let same : u i j ≡ w i j = are.others i j (omega arith) (omega arith) off apart in
        let old = stands.bounded i j h g ne (subst (λ (x : ℤ). IsBound x) same b) in
        subst (λ (x : ℤ). DifferBy x (value_at other i) (value_at other j)) (sym same)
        (subst (λ (v : Option ℤ). DifferBy (w i j) v (value_at other j)) (value_same at cells other agree i off)
        (subst (λ (v : Option ℤ). DifferBy (w i j) (value_at cells i) v) (value_same at cells other agree j apart) old))

-- ---- of a lower matrix

pub forgotten_monotone : (size : ℕ) (a b : ℕ → ℕ → ℤ) (at : ℕ) (c d : ℕ → ℕ → ℤ) → ((i j : ℕ) → i ≤ size → j ≤ size → a i j ≤ℤ b i j) → at ≤ size → AreForgotten size a at c → AreForgotten size b at d → (i j : ℕ) → i ≤ size → j ≤ size → i ≢ j → c i j ≤ℤ d i j
forgotten_monotone size a b at c d lower within first last i j h g ne = each (cases_eq i at) (cases_eq j at)
  where
    nones_lower : (x y : ℤ) → x ≡ none → y ≡ none → x ≤ℤ y
    nones_lower x y e f = omega (arith, ints, e, f)

    kept_lower : (x y p q : ℤ) → x ≡ p → y ≡ q → p ≤ℤ q → x ≤ℤ y
    kept_lower x y p q e f k = omega (arith, ints, e, f, k)

    each : (i ≡ at) ⊎ (i ≡ at → ⊥) → (j ≡ at) ⊎ (j ≡ at → ⊥) → c i j ≤ℤ d i j
    each (inl e) (inl f) = absurd (ne (e ∙ sym f))
    each (inl e) (inr apart) = nones_lower (c i j) (d i j) (ap (λ (p : ℕ). c p j) e ∙ first.row j g apart) (ap (λ (p : ℕ). d p j) e ∙ last.row j g apart)
    each (inr off) (inl f) = nones_lower (c i j) (d i j) (ap (λ (p : ℕ). c i p) f ∙ first.column i h off) (ap (λ (p : ℕ). d i p) f ∙ last.column i h off)
    each (inr off) (inr apart) = kept_lower (c i j) (d i j) (a i j) (b i j) (first.others i j h g off apart) (last.others i j h g off apart) (lower i j h g)
