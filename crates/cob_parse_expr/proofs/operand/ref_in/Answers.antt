use Rattle.std.proofs.Common.{◌≡◌, List, ℕ, Ok, refl, ap, sym, ◌∙◌}
use Rattle.cob_tree.specs.declared.operand.Ref.{Ref}
use Rattle.cob_parse_expr.specs.Steps.{signs}
use Rattle.cob_parse_expr.proofs.StepLemmas.{bare}
use Rattle.cob_parse_expr.proofs.operand.ref_in.Goals as goal

pub returns-clause-gives : goal.returns-clause-gives
returns-clause-gives c = rw (c.in-Ok.ensures.gives, c.in-Ok-qualifiers.ensures.gives) (ap (λ (z : List (List ℕ)). Ok (record { name = c.in-Ok.given.0; of = z }, signs c.in-Ok-qualifiers.given.1.now)) (bare c.in-Ok-qualifiers.given.0.items ∙ sym c.of-of.ensures))
