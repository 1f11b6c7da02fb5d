use Rattle.std.proofs.Common.{rules, ◌∙◌}
use Rattle.std.specs.Int.{w128}
use Rattle.std.proofs.lemmas.Int.{to_z-of_z}
use Rattle.diff_layer.proofs.Quotients.{quotient_above, quotient_below}
use Rattle.diff_layer.proofs.forms.operands.has_quotient.Goals as goal

pub returns-else-under-ge1 : goal.returns-else-under-ge1
returns-else-under-ge1 c =
    quotient_below c.args.top c.args.under _ _ (to_z-of_z w128 c.args.under.units.low (search rules)) (to_z-of_z w128 c.args.under.units.high (search rules)) c.if-under-ge1.false

pub returns-then-under-ge1 : goal.returns-then-under-ge1
returns-then-under-ge1 c =
    c.if-under-ge1.true
    ∙ quotient_above c.args.top c.args.under _ (to_z-of_z w128 c.args.under.units.high (search rules)) c.if-under-ge1.true
