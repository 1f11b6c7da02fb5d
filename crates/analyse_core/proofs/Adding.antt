-- What calls add to a list, one behind the other.
use Rattle.std.proofs.Common.{◌≡◌, List, ◌++◌, sym, ap, append_assoc, ◌∙◌}

module _ {A : Type 0} where
  pub both_added : (old mid new first second all : List A) → mid ≡ old ++ first → all ≡ first ++ second → new ≡ mid ++ second → new ≡ old ++ all
  both_added old mid new first second all grown cut more =
      more ∙ ap (λ xs. xs ++ second) grown ∙ append_assoc old first second ∙ ap (λ xs. old ++ xs) (sym cut)

  pub three_added : (old one two new first second third all : List A) → one ≡ old ++ first → two ≡ one ++ second → all ≡ first ++ (second ++ third) →
      new ≡ two ++ third → new ≡ old ++ all
  three_added old one two new first second third all grown next cut more =
      both_added old one new first (second ++ third) all grown cut (more ∙ ap (λ xs. xs ++ third) next ∙ append_assoc one second third)
