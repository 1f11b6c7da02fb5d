-- Sides of relations, as lists of parts.
use Rattle.std.proofs.Common.{◌≡◌, List, [], ◌∷◌, length, map, None, refl}
use Rattle.cob_program.specs.declared.sum.Part as declared_part
use Rattle.cob_program.specs.declared.sum.Factor as declared_factor
use Rattle.cob_program.specs.Sum.{parts_of, factors_of}
use Rattle.cob_program.specs.SumView.{plain_part, plain_factor}
use Rattle.transfer_ranges.specs.Guards.{lone_parts, lone_factors}

pub no_lone_factor : (xs : List declared_factor.Factor) → (length xs ≡ 1 → ⊥) → None ≡ lone_factors (factors_of (map plain_factor xs))
no_lone_factor [] other = refl
no_lone_factor (x ∷ []) other = absurd (other refl)
no_lone_factor (x ∷ y ∷ xs) other = refl

pub no_lone_part : (xs : List declared_part.Part) → (length xs ≡ 1 → ⊥) → None ≡ lone_parts (parts_of (map plain_part xs))
no_lone_part [] other = refl
no_lone_part (x ∷ []) other = absurd (other refl)
no_lone_part (x ∷ y ∷ xs) other = refl
