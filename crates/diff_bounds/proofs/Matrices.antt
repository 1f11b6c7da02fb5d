-- What is left are matrices.
use Rattle.std.proofs.Common.{◌≡◌, ℕ, ◌+◌, ◌*◌, ◌/◌, ◌%◌, ◌<◌, ◌≤◌, Bool, true, false, cond, List, length, get_or, ℤ, pos, neg_ℤ, Option, None, ◌⊎◌, inl, inr, sym, ap, subst, ◌∙◌, arith}
use Rattle.std.proofs.lemmas.Int.{ints}
use Rattle.std.proofs.lemmas.Bool.{cases_eq}
use Rattle.std.proofs.lemmas.Nat.{div-add-mod', mod_below, div_below}
use Rattle.diff_bounds.specs.declared.form.lin.Lin.{Lin}
use Rattle.diff_bounds.specs.Forms.{is_small}
use Rattle.diff_bounds.specs.Matrix.{word, none, IsWord, IsMatrix}
use Rattle.diff_bounds.proofs.Ends.{words_of}
use Rattle.diff_bounds.specs.Numbers.{word_of}
use Rattle.diff_bounds.specs.Upper.{upper, coef_at}
use Rattle.diff_bounds.proofs.Bounded.{upper_is_word}
use Rattle.diff_bounds.specs.Assigned.{less_place, negated, upper_less, less_upper, AreAssigned}
use Rattle.diff_bounds.proofs.Puts.{IsRowPut, IsColumnPut}

-- words by row and column are words by place
pub by_places : (size : ℕ) (m : List ℤ) → length m ≡ (size + 1) * (size + 1) → ((i j : ℕ) → i < size + 1 → j < size + 1 → IsWord (word (size + 1) m i j)) → (k : ℕ) → k < length m → IsWord (get_or m k (pos 0))
by_places size m width words k h =
    let row : k / (size + 1) < size + 1 = div_below k (size + 1) (size + 1) (omega arith) (omega (arith, width)) in
    let column : k % (size + 1) < size + 1 = mod_below k (size + 1) (omega arith) in
    let place : k / (size + 1) * (size + 1) + k % (size + 1) ≡ k = div-add-mod' k (size + 1) in
    subst (λ (p : ℕ). IsWord (get_or m p (pos 0))) place (words (k / (size + 1)) (k % (size + 1)) row column)

pub none_is_word : IsWord none
none_is_word = record { low = omega (arith, ints); high = λ b. absurd (omega (arith, ints)); top = omega (arith, ints) }

guarded_is_word : (b : Bool) (o : Option ℤ) → IsWord (word_of o) → IsWord (word_of (cond b o None))
guarded_is_word true o is = is
guarded_is_word false o is = none_is_word

-- ---- an assignment
pub put_is_assigned : (size to : ℕ) (old middle new row column : List ℤ) (form : Lin) → to ≤ size
    → ((j : ℕ) → j < size + 1 → get_or row j (pos 0) ≡ word_of (upper_less (word (size + 1) old) j (coef_at form.coefs) form.constant.high size))
    → ((i : ℕ) → i < size + 1 → get_or column i (pos 0) ≡ word_of (less_upper (word (size + 1) old) i (coef_at form.coefs) form.constant.low size))
    → IsRowPut (size + 1) old row to (size + 1) middle → IsColumnPut (size + 1) middle column to (size + 1) new
    → AreAssigned size (word (size + 1) old) to form (word (size + 1) new)
put_is_assigned size to old middle new row column form within rows columns first second = record {
  row = λ j h ne. second.others to j (omega arith) (omega arith) ne ∙ first.done j (omega arith) ne ∙ rows j (omega arith);
  column = λ i h ne. second.done i (omega arith) ne ∙ columns i (omega arith);
  others = λ i j h k ne apart. second.others i j (omega arith) (omega arith) apart ∙ first.others i j (omega arith) (omega arith) ne;
}

pub assigned_is_matrix : (size to : ℕ) (old new : List ℤ) (form : Lin) → IsMatrix size old → length new ≡ (size + 1) * (size + 1) → word (size + 1) new to to ≡ word (size + 1) old to to → to ≤ size → AreAssigned size (word (size + 1) old) to form (word (size + 1) new) → IsMatrix size new
assigned_is_matrix size to old new form is width diagonal within are = record {
  width = width;
  words = by_places size new width (λ i j h g. each i j h g (cases_eq i to) (cases_eq j to));
  diagonal = λ i h. elim (cases_eq i to) as (λ _. word (size + 1) new i i ≡ pos 0) [
    | inl e ↦ subst (λ (p : ℕ). word (size + 1) new p p ≡ pos 0) (sym e) (diagonal ∙ is.diagonal to (omega arith))
    | inr ne ↦ are.others i i (omega arith) (omega arith) ne ne ∙ is.diagonal i h
  ];
}
  where
    c : ℕ → ℤ
    c = coef_at form.coefs

    w : ℕ → ℕ → ℤ
    w = word (size + 1) old

    each : (i j : ℕ) → i < size + 1 → j < size + 1 → (i ≡ to) ⊎ (i ≡ to → ⊥) → (j ≡ to) ⊎ (j ≡ to → ⊥) → IsWord (word (size + 1) new i j)
    each i j h g (inl e) (inl f) =
        let same : word (size + 1) new i j ≡ word (size + 1) old to to = ap (λ (p : ℕ). word (size + 1) new p j) e ∙ ap (λ (p : ℕ). word (size + 1) new to p) f ∙ diagonal in
        subst (λ (x : ℤ). IsWord x) (sym same) ((words_of size old is).words to to (omega arith) (omega arith))
    each i j h g (inl e) (inr apart) =
        let same : word (size + 1) new i j ≡ word_of (upper_less w j c form.constant.high size) = ap (λ (p : ℕ). word (size + 1) new p j) e ∙ are.row j (omega arith) apart in
        subst (λ (x : ℤ). IsWord x) (sym same) (guarded_is_word (is_small (less_place j c j)) (upper w (less_place j c) form.constant.high size) (upper_is_word w (less_place j c) form.constant.high size))
    each i j h g (inr ne) (inl f) =
        let same : word (size + 1) new i j ≡ word_of (less_upper w i c form.constant.low size) = ap (λ (p : ℕ). word (size + 1) new i p) f ∙ are.column i (omega arith) ne in
        subst (λ (x : ℤ). IsWord x) (sym same) (guarded_is_word (is_small (less_place i c i)) (upper w (negated (less_place i c)) (neg_ℤ form.constant.low) size) (upper_is_word w (negated (less_place i c)) (neg_ℤ form.constant.low) size))
    each i j h g (inr ne) (inr apart) =
        subst (λ (x : ℤ). IsWord x) (sym (are.others i j (omega arith) (omega arith) ne apart)) ((words_of size old is).words i j h g)
