-- What is found on lines, one behind the other.
use Rattle.std.proofs.Common.{◌≡◌, ℕ, List, [], ◌∷◌, ◌++◌, refl, ap, ◌∙◌}
use Rattle.cob_data.specs.declared.end.Rule.{Rule}
use Rattle.cob_typed_exprs.specs.declared.finding.Finding.{Finding}
use Rattle.cob_typed_exprs.specs.Judged.{Broken, kept, one, both, finding, noted}
use Rattle.cob_typed.specs.Lists.{found_behind}
use Rattle.cob_typed.specs.Statements.{found_on}

pub found_append : (findings : List Finding) (xs ys : List (Rule × ℕ)) → found_behind findings (xs ++ ys) ≡ found_behind (found_behind findings xs) ys
found_append findings [] ys = refl
found_append findings (x ∷ xs) ys = found_append (findings ++ finding x.0 x.1 ∷ []) xs ys

pub found_noted : (line : ℕ) (findings : List Finding) (b : Broken) → found_behind findings (found_on line b) ≡ noted line findings b
found_noted line findings kept = refl
found_noted line findings (one rule) = refl
found_noted line findings (both a b) =
    found_append findings (found_on line a) (found_on line b) ∙ ap (λ fs. found_behind fs (found_on line b)) (found_noted line findings a)
    ∙ found_noted line (noted line findings a) b
