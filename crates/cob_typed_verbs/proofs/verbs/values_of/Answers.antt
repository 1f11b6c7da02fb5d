use Rattle.std.proofs.Common.{◌∙◌}
use Rattle.cob_typed_exprs.specs.Judged.{each_of}
use Rattle.cob_typed_exprs.specs.Sums.{operand}
use Rattle.cob_typed_exprs.proofs.EachLemmas.{each_value, each_noted, each_value_end, each_noted_end, map_same}
use Rattle.cob_typed_verbs.proofs.verbs.values_of.Goals as goal

pub loop-operand-preserved : goal.loop-operand-preserved
loop-operand-preserved c =
    let l = c.loop-operand in
    let x = c.operand-item.result in record {
      value = each_value (operand c.args.scope.now) c.args.operands.now (λ y. y) l.operand-index x l.values.items c.push.new.self.items _ c.in_ok-operand.field-0 c.loop-operand-test.true c.operand-item.is c.in_ok-operand.ensures.value c.in_ok-push.ensures.items l.invariant.value;
      noted = each_noted (operand c.args.scope.now) c.args.operands.now l.operand-index c.args.line x l.findings.items c.operand.new.findings.items _ c.loop-operand-test.true c.operand-item.is c.in_ok-operand.ensures.noted l.invariant.noted;
    }

pub returns-clause-value : goal.returns-clause-value
returns-clause-value c =
    let l = c.loop-operand in
    each_value_end (operand c.args.scope.now) c.args.operands.now (λ y. y) l.operand-index l.values.items _ c.loop-operand-test.false l.invariant.value ∙ map_same (each_of (operand c.args.scope.now) c.args.operands.now).value

pub returns-clause-noted : goal.returns-clause-noted
returns-clause-noted c =
    let l = c.loop-operand in
    each_noted_end (operand c.args.scope.now) c.args.operands.now l.operand-index c.args.line l.findings.items _ c.loop-operand-test.false l.invariant.noted
