use Rattle.std.proofs.Common.{◌≡◌, Bool, true, false, ◌&&◌, sym, ap, ◌∙◌}
use Rattle.sum_forms.proofs.Working.{literals_step}
use Rattle.sum_forms.proofs.literals.are_literals.Goals as goal

ends : (b rest : Bool) → false ≡ b → false ≡ (b && rest)
ends b rest e = ap (λ x. x && rest) e

goes_on : (b rest : Bool) → true ≡ b → rest ≡ (b && rest)
goes_on b rest e = ap (λ x. x && rest) e

pub returns-then-not-is_literal : goal.returns-then-not-is_literal
returns-then-not-is_literal c =
    let step = literals_step c.args.factors.now c.loop-factor.factor-index c.factor-item.result c.loop-factor-test.true c.factor-item.is in
    ends _ _ (sym c.if-not-is_literal.true ∙ c.is_literal.ensures) ∙ sym step ∙ c.loop-factor.invariant

pub loop-factor-preserved : goal.loop-factor-preserved
loop-factor-preserved c =
    let step = literals_step c.args.factors.now c.loop-factor.factor-index c.factor-item.result c.loop-factor-test.true c.factor-item.is in
    goes_on _ _ (sym c.if-not-is_literal.false ∙ c.is_literal.ensures) ∙ sym step ∙ c.loop-factor.invariant
