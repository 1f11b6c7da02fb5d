-- Divisors that may be 0, where a division is the last operation of a sum.
use Rattle.std.proofs.Common.{◌≡◌, subst, ℕ, Bool, true, false, Option, Some, None, ◌&&◌, ◌||◌, refl, sym, ap, ◌∙◌}
use Rattle.cob_program.specs.Sum.{Sum, MkSum, no_parts, more_parts, MkPart, Factors, no_factors, more_factors, Factor, MkFactor}
use Rattle.cob_program.specs.Values.{Root, behind_factor, root_in, root_of}
use Rattle.cob_program.proofs.Roots.{root_more, root_many}
use Rattle.sum_ranges.specs.declared.ranged.Ranged.{Ranged}
use Rattle.sum_ranges.specs.SumRanges.{atom_range}
use Rattle.sum_ranges.specs.Vanishing.{holds_zero, may_vanish, may_vanish_in_product, may_vanish_in_atom, may_be_zero, may_vanish_in_root}

some_is : {A : Type 0} {a b : A} → Some a ≡ Some b → a ≡ b
some_is e = cc

none_is_not : {A : Type 0} {a : A} → None ≡ Some a → ⊥
none_is_not e = absurd cc

or_many : (a b c d : Bool) → (a || (b || (c || d))) ≡ ((a || (b || c)) || d)
or_many true b c d = refl
or_many false true c d = refl
or_many false false c d = refl

or_last : (a b : Bool) → (a || (b || false)) ≡ (a || b)
or_last true b = refl
or_last false true = refl
or_last false false = refl

or_false : (a : Bool) → (a || false) ≡ a
or_false true = refl
or_false false = refl

module _ (range : ℕ → Ranged) where
  behind_vanishes : (f : Factor) (gs : Factors) (o : Option Root) (r : Root)
      → ((q : Root) → o ≡ Some q → may_vanish_in_product range gs ≡ may_vanish_in_root range q)
      → behind_factor f o ≡ Some r → may_vanish_in_product range (more_factors f gs) ≡ may_vanish_in_root range r
  behind_vanishes f gs None r same made = absurd cc
  behind_vanishes (MkFactor over minus atom) gs (Some q) r same made =
      subst (λ t. may_vanish_in_product range (more_factors (MkFactor over minus atom) gs) ≡ may_vanish_in_root range t) (some_is made)
      (ap (λ b. may_vanish_in_atom range atom || ((over && holds_zero (atom_range range atom)) || b)) (same q refl)
      ∙ or_many (may_vanish_in_atom range atom) (over && holds_zero (atom_range range atom)) (may_vanish_in_product range q.above) (may_be_zero range q.below))

  vanishes_in : (fs : Factors) (r : Root) → root_in fs ≡ Some r → may_vanish_in_product range fs ≡ may_vanish_in_root range r
  vanishes_in no_factors r made = absurd cc
  vanishes_in (more_factors (MkFactor false minus atom) no_factors) r made = absurd cc
  vanishes_in (more_factors (MkFactor true minus atom) no_factors) r made =
      subst (λ t. may_vanish_in_product range (more_factors (MkFactor true minus atom) no_factors) ≡ may_vanish_in_root range t) (some_is made)
      (or_last (may_vanish_in_atom range atom) (holds_zero (atom_range range atom)))
  vanishes_in (more_factors f (more_factors g gs)) r made =
      behind_vanishes f (more_factors g gs) (root_in (more_factors g gs)) r (vanishes_in (more_factors g gs))
      (sym (root_more f g gs) ∙ made)

  pub root_vanishes : (s : Sum) (r : Root) → root_of s ≡ Some r → may_vanish range s ≡ may_vanish_in_root range r
  root_vanishes (MkSum no_parts) r made = absurd cc
  root_vanishes (MkSum (more_parts (MkPart true fs) no_parts)) r made = absurd cc
  root_vanishes (MkSum (more_parts (MkPart false fs) no_parts)) r made =
      or_false (may_vanish_in_product range fs) ∙ vanishes_in fs r made
  root_vanishes (MkSum (more_parts p (more_parts q ps))) r made = absurd (none_is_not (sym (root_many p q ps) ∙ made))
