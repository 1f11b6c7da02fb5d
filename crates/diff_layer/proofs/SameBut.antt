-- Words that are the same but for a row and its column.
use Rattle.std.proofs.Common.{◌≡◌, ◌≢◌, ℕ, ◌+◌, ◌*◌, ◌/◌, ◌%◌, ◌<◌, ◌≤◌, List, get_or, ℤ, pos, inl, inr, sym, subst, ◌∙◌, arith}
use Rattle.std.proofs.lemmas.Bool.{cases_eq}
use Rattle.std.proofs.lemmas.Nat.{div-mul-add, mod-mul-add}
use Rattle.diff_bounds.specs.Matrix.{word}
use Rattle.diff_bounds.proofs.Places.{place_fits}
use Rattle.diff_bounds.specs.Settled.{IsTightBut}
use Rattle.diff_bounds.proofs.Tight.{tight_beside}
use Rattle.diff_layer.specs.Tight.{AreSameBut}

-- the first words are the same, but for those of one row and of its column
pub record AreSameTo (n at : ℕ) (old new : List ℤ) (count : ℕ) : Type 0 where
  pub same : (k : ℕ) → k < count → k / n ≢ at → k % n ≢ at → get_or new k (pos 0) ≡ get_or old k (pos 0)

pub same_none : (n at : ℕ) (old new : List ℤ) → AreSameTo n at old new 0
same_none n at old new = record { same = λ k h. absurd (omega arith) }

pub same_more : (n at count : ℕ) (old new : List ℤ) → (count / n ≢ at → count % n ≢ at → get_or new count (pos 0) ≡ get_or old count (pos 0)) → AreSameTo n at old new count → AreSameTo n at old new (count + 1)
same_more n at count old new here are = record {
  same = λ k h row column. elim (cases_eq k count) as (λ _. get_or new k (pos 0) ≡ get_or old k (pos 0)) [
    | inl e ↦ subst (λ (p : ℕ). get_or new p (pos 0) ≡ get_or old p (pos 0)) (sym e) (here (λ f. row (subst (λ (p : ℕ). p / n ≡ at) (sym e) f)) (λ f. column (subst (λ (p : ℕ). p % n ≡ at) (sym e) f)))
    | inr ne ↦ are.same k (omega arith) row column
  ];
}

pub same_all : (size at count : ℕ) (old new : List ℤ) → (size + 1) * (size + 1) ≤ count → AreSameTo (size + 1) at old new count → AreSameBut size at (word (size + 1) old) (word (size + 1) new)
same_all size at count old new all are = record {
  same = λ i j h g row column.
      let fits = place_fits (size + 1) i j (omega arith) (omega arith) in
      are.same (i * (size + 1) + j) (omega (arith, fits)) (λ e. row (sym (div-mul-add i (size + 1) j (omega arith)) ∙ e)) (λ e. column (sym (mod-mul-add i (size + 1) j (omega arith)) ∙ e));
}

pub tight_of : (size at : ℕ) (old new : ℕ → ℕ → ℤ) → AreSameBut size at old new → IsTightBut (size + 1) at old → IsTightBut (size + 1) at new
tight_of size at old new are = tight_beside (size + 1) at old new (λ i j h g row column. are.same i j (omega arith) (omega arith) row column)
