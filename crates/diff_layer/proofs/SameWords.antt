-- A matrix with given words is the list of these words.
use Rattle.std.proofs.Common.{◌≡◌, ℕ, ◌+◌, ◌*◌, ◌/◌, ◌%◌, ◌<◌, cond, eqb, ◌||◌, List, length, get_or, ℤ, pos, ◌≤ℤ◌, ◌<ℤ◌, ◌⊎◌, inl, inr, sym, ap, ◌∙◌, arith}
use Rattle.std.specs.Int.{int_min}
use Rattle.std.proofs.lemmas.Int.{ints, clamps, by_lt_z}
use Rattle.std.proofs.lemmas.Bool.{cases_eq, eq-eqb, ne_eqb}
use Rattle.std.proofs.lemmas.Nat.{div-add-mod', mod_below, div_below}
use Rattle.std.proofs.lemmas.List.FromFn.{fill_by_all}
use Rattle.diff_bounds.specs.declared.form.lin.Lin.{Lin}
use Rattle.diff_bounds.specs.Matrix.{word, none, largest, IsBound, IsWord, IsMatrix}
use Rattle.diff_bounds.proofs.Places.{place_fits}
use Rattle.diff_bounds.specs.Numbers.{word_of}
use Rattle.diff_bounds.specs.Upper.{coef_at}
use Rattle.diff_bounds.specs.Assigned.{upper_less, less_upper, AreAssigned}
use Rattle.diff_bounds.specs.Demanded.{AreDemanded, lowered}
use Rattle.diff_bounds.specs.Forgotten.{AreForgotten}
use Rattle.diff_steps.specs.Matrices.{with_words, forgotten, assigned, demanded, lesser}

pub with_words_is : (size : ℕ) (m : List ℤ) (w : ℕ → ℕ → ℤ) → length m ≡ (size + 1) * (size + 1) → ((i j : ℕ) → i < size + 1 → j < size + 1 → word (size + 1) m i j ≡ w i j) → m ≡ with_words size w
with_words_is size m w width each =
    fill_by_all (λ (k : ℕ). w (k / (size + 1)) (k % (size + 1))) m ((size + 1) * (size + 1)) (pos 0) width (λ k h. at k h)
  where
    at : (k : ℕ) → k < (size + 1) * (size + 1) → get_or m k (pos 0) ≡ w (k / (size + 1)) (k % (size + 1))
    at k h =
        let place : k / (size + 1) * (size + 1) + k % (size + 1) ≡ k = div-add-mod' k (size + 1) in
        ap (λ (p : ℕ). get_or m p (pos 0)) (sym place)
        ∙ each (k / (size + 1)) (k % (size + 1)) (div_below k (size + 1) (size + 1) (omega arith) h) (mod_below k (size + 1) (omega arith))

-- ---- a cell that is forgotten

pub forgotten_is : (size at : ℕ) (old new : List ℤ) → IsMatrix size old → IsMatrix size new → AreForgotten size (word (size + 1) old) at (word (size + 1) new) → new ≡ forgotten size at old
forgotten_is size at old new before behind are =
    with_words_is size new
    (λ (i j : ℕ). cond (eqb i j) (word (size + 1) old i j) (cond (eqb i at || eqb j at) none (word (size + 1) old i j)))
    behind.width (λ i j h g. each i j h g (cases_eq i j) (cases_eq i at) (cases_eq j at))
  where
    each : (i j : ℕ) → i < size + 1 → j < size + 1 → (i ≡ j) ⊎ (i ≡ j → ⊥) → (i ≡ at) ⊎ (i ≡ at → ⊥) → (j ≡ at) ⊎ (j ≡ at → ⊥) → word (size + 1) new i j ≡ cond (eqb i j) (word (size + 1) old i j) (cond (eqb i at || eqb j at) none (word (size + 1) old i j))
    each i j h g (inl e) p q =
        rw (eq-eqb i j e) (ap (λ (k : ℕ). word (size + 1) new k j) e ∙ behind.diagonal j g ∙ sym (before.diagonal j g) ∙ ap (λ (k : ℕ). word (size + 1) old k j) (sym e))
    each i j h g (inr ne) (inl p) q =
        rw (ne_eqb i j ne, eq-eqb i at p) (ap (λ (k : ℕ). word (size + 1) new k j) p ∙ are.row j (omega arith) (λ f. ne (p ∙ sym f)))
    each i j h g (inr ne) (inr p) (inl q) =
        rw (ne_eqb i j ne, ne_eqb i at p, eq-eqb j at q) (ap (λ (k : ℕ). word (size + 1) new i k) q ∙ are.column i (omega arith) p)
    each i j h g (inr ne) (inr p) (inr q) =
        rw (ne_eqb i j ne, ne_eqb i at p, ne_eqb j at q) (are.others i j (omega arith) (omega arith) p q)

-- ---- a form that is assigned

abbrev assigned_word : ℕ → ℕ → Lin → List ℤ → ℕ → ℕ → ℤ
assigned_word size to form m i j =
    cond (eqb i j) (word (size + 1) m i j)
    (cond (eqb i to) (word_of (upper_less (word (size + 1) m) j (coef_at form.coefs) form.constant.high size))
    (cond (eqb j to) (word_of (less_upper (word (size + 1) m) i (coef_at form.coefs) form.constant.low size)) (word (size + 1) m i j)))

pub assigned_is : (size to : ℕ) (form : Lin) (old new : List ℤ) → IsMatrix size old → IsMatrix size new → AreAssigned size (word (size + 1) old) to form (word (size + 1) new) → new ≡ assigned size to form old
assigned_is size to form old new before behind are =
    with_words_is size new (assigned_word size to form old) behind.width (λ i j h g. each i j h g (cases_eq i j) (cases_eq i to) (cases_eq j to))
  where
    each : (i j : ℕ) → i < size + 1 → j < size + 1 → (i ≡ j) ⊎ (i ≡ j → ⊥) → (i ≡ to) ⊎ (i ≡ to → ⊥) → (j ≡ to) ⊎ (j ≡ to → ⊥) → word (size + 1) new i j ≡ assigned_word size to form old i j
    each i j h g (inl e) p q =
        rw (eq-eqb i j e) (ap (λ (k : ℕ). word (size + 1) new k j) e ∙ behind.diagonal j g ∙ sym (before.diagonal j g) ∙ ap (λ (k : ℕ). word (size + 1) old k j) (sym e))
    each i j h g (inr ne) (inl p) q =
        rw (ne_eqb i j ne, eq-eqb i to p) (ap (λ (k : ℕ). word (size + 1) new k j) p ∙ are.row j (omega arith) (λ f. ne (p ∙ sym f)))
    each i j h g (inr ne) (inr p) (inl q) =
        rw (ne_eqb i j ne, ne_eqb i to p, eq-eqb j to q) (ap (λ (k : ℕ). word (size + 1) new i k) q ∙ are.column i (omega arith) p)
    each i j h g (inr ne) (inr p) (inr q) =
        rw (ne_eqb i j ne, ne_eqb i to p, ne_eqb j to q) (are.others i j (omega arith) (omega arith) p q)

-- ---- a demand

pub demanded_is : (size : ℕ) (form : Lin) (old new : List ℤ) → IsMatrix size new → AreDemanded size (word (size + 1) old) form (word (size + 1) new) → new ≡ demanded size form old
demanded_is size form old new behind are =
    with_words_is size new (lowered (word (size + 1) old) (coef_at form.coefs) form.constant.low size) behind.width
    (λ i j h g. are.words i j (omega arith) (omega arith))

-- ---- the lesser words

pub lesser_is : (size : ℕ) (a b c : List ℤ) → length c ≡ (size + 1) * (size + 1) → ((k : ℕ) → k < (size + 1) * (size + 1) → get_or c k (pos 0) ≡ int_min (get_or a k (pos 0)) (get_or b k (pos 0))) → c ≡ lesser size a b
lesser_is size a b c width each =
    with_words_is size c (λ (i j : ℕ). int_min (word (size + 1) a i j) (word (size + 1) b i j)) width
    (λ i j h g. each (i * (size + 1) + j) (omega (arith, place_fits (size + 1) i j h g)))

word_of_both : (x y z : ℤ) → z ≡ int_min x y → IsWord x → IsWord y → IsWord z
word_of_both x y z e first last = record {
  low = let h = first.low in let k = last.low in omega (arith, ints, clamps);
  high = λ b. number b (by_lt_z x none (λ lt. inl lt) (λ le. inr le)) (by_lt_z y none (λ lt. inl lt) (λ le. inr le));
  top = let h = first.top in omega (arith, ints, clamps);
}
  where
    number : IsBound z → (x <ℤ none) ⊎ (none ≤ℤ x) → (y <ℤ none) ⊎ (none ≤ℤ y) → z ≤ℤ largest
    number b (inl p) q = let h = first.high p in omega (arith, ints, clamps)
    number b (inr p) (inl q) = let h = last.high q in omega (arith, ints, clamps)
    number b (inr p) (inr q) = absurd (omega (arith, ints, clamps))

pub lesser_is_matrix : (size : ℕ) (a b c : List ℤ) → IsMatrix size a → IsMatrix size b → length c ≡ (size + 1) * (size + 1) → ((k : ℕ) → k < (size + 1) * (size + 1) → get_or c k (pos 0) ≡ int_min (get_or a k (pos 0)) (get_or b k (pos 0))) → IsMatrix size c
lesser_is_matrix size a b c first last width each = record {
  width = width;
  words = λ k h. word_of_both (get_or a k (pos 0)) (get_or b k (pos 0)) (get_or c k (pos 0)) (each k (omega (arith, width))) (first.words k (omega (arith, width, first.width))) (last.words k (omega (arith, width, last.width)));
  diagonal = λ i h.
      let least : word (size + 1) c i i ≡ int_min (word (size + 1) a i i) (word (size + 1) b i i) = each (i * (size + 1) + i) (omega (arith, place_fits (size + 1) i i h h)) in
      let x = first.diagonal i h in
      let y = last.diagonal i h in
      omega (arith, ints, clamps);
}
