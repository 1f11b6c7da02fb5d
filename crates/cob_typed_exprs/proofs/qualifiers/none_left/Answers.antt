use Rattle.std.proofs.Common.{◌≡◌, ◌==◌, ℕ, Bool, List, [], ◌∷◌, length, refl, ◌∙◌, arith}
use Rattle.std.proofs.lemmas.Bool.Decides.{nat_tests}
use Rattle.cob_typed_exprs.specs.Names.{qualifies}
use Rattle.cob_typed_exprs.proofs.qualifiers.none_left.Goals as goal

none_is : (of : List (List ℕ)) → (length of == 0) ≡ qualifies of []
none_is [] = refl
none_is (q ∷ qs) = grind (arith, nat_tests)

pub returns : goal.returns
returns c = c.is_empty.ensures ∙ none_is c.args.of.now
