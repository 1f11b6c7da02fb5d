-- Sums that aren't one literal.
use Rattle.std.proofs.Common.{◌≡◌, Bool, List, [], ◌∷◌, length, map, None, refl, sym}
use Rattle.cob_program.specs.declared.sum.Part as declared_part
use Rattle.cob_program.specs.declared.sum.Factor as declared_factor
use Rattle.cob_program.specs.Sum.{MkSum, Parts, no_parts, more_parts, parts_of, Part, MkPart, Factors, no_factors, more_factors, factors_of, Factor, MkFactor}
use Rattle.cob_program.specs.SumView.{plain_part, plain_factor}
use Rattle.diff_steps.specs.Forms.{whole_sum}

many_factors : (minus : Bool) (f g : Factor) (fs : Factors) → whole_sum (MkSum (more_parts (MkPart minus (more_factors f (more_factors g fs))) no_parts)) ≡ None
many_factors minus (MkFactor over m a) g fs = refl

many_parts : (p q : Part) (ps : Parts) → whole_sum (MkSum (more_parts p (more_parts q ps))) ≡ None
many_parts (MkPart minus no_factors) q ps = refl
many_parts (MkPart minus (more_factors (MkFactor over m a) no_factors)) q ps = refl
many_parts (MkPart minus (more_factors (MkFactor over m a) (more_factors g fs))) q ps = refl

pub not_one_factor : (minus : Bool) (xs : List declared_factor.Factor) → (length xs ≡ 1 → ⊥) →
    None ≡ whole_sum (MkSum (more_parts (MkPart minus (factors_of (map plain_factor xs))) no_parts))
not_one_factor minus [] other = refl
not_one_factor minus (x ∷ []) other = absurd (other refl)
not_one_factor minus (x ∷ y ∷ xs) other = sym (many_factors minus (plain_factor x) (plain_factor y) (factors_of (map plain_factor xs)))

pub not_one_part : (xs : List declared_part.Part) → (length xs ≡ 1 → ⊥) → None ≡ whole_sum (MkSum (parts_of (map plain_part xs)))
not_one_part [] other = refl
not_one_part (x ∷ []) other = absurd (other refl)
not_one_part (x ∷ y ∷ xs) other = sym (many_parts (plain_part x) (plain_part y) (parts_of (map plain_part xs)))
