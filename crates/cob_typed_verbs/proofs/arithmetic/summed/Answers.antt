use Rattle.std.proofs.Common.{◌∙◌, rules}
use Rattle.std.specs.Option.{option_copied}
use Rattle.cob_typed_exprs.specs.Judged.{each_of, if_there}
use Rattle.cob_typed_exprs.specs.Sums.{numeric_operand}
use Rattle.cob_typed_verbs.proofs.WorkLemmas.{summed_is}
use Rattle.cob_typed_verbs.proofs.arithmetic.summed.Goals as goal

pub returns-clause-value : goal.returns-clause-value
returns-clause-value c =
    c.of.ensures ∙ summed_is c.args.minus (each_of (numeric_operand c.args.scope.now) c.args.operands.now).value (if_there (numeric_operand c.args.scope.now) (option_copied c.args.last)).value _ _ _
    (search rules) c.in_ok-add_operands.ensures.value c.in_ok-add_operand.ensures.value
