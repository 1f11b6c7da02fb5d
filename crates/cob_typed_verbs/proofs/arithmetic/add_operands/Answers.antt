use Rattle.std.proofs.Common.{◌∙◌, ap, map}
use Rattle.cob_program.specs.SumView.{plain_part}
use Rattle.cob_typed_exprs.specs.Sums.{numeric_operand}
use Rattle.cob_typed_verbs.specs.Arithmetic.{atom_part}
use Rattle.cob_typed_exprs.proofs.EachLemmas.{each_value, each_noted, each_value_end, each_noted_end, map_more}
use Rattle.cob_typed_verbs.proofs.arithmetic.add_operands.Goals as goal

pub loop-operand-preserved : goal.loop-operand-preserved
loop-operand-preserved c =
    let l = c.loop-operand in
    let x = c.operand-item.result in
    let part = c.in_ok-atom_part.field-0 in record {
      value = each_value (numeric_operand c.args.scope.now) c.args.operands.now (atom_part c.args.minus) l.operand-index x (map plain_part l.parts.items) (map plain_part c.push.new.self.items) _ (plain_part part)
          c.loop-operand-test.true c.operand-item.is (c.in_ok-atom_part.ensures ∙ ap (atom_part c.args.minus) c.in_ok-atom.ensures.value)
          (map_more plain_part l.parts.items c.push.new.self.items part c.in_ok-push.ensures.items) l.invariant.value;
      noted = each_noted (numeric_operand c.args.scope.now) c.args.operands.now l.operand-index c.args.line x l.findings.items c.numeric_operand.new.findings.items _ c.loop-operand-test.true c.operand-item.is c.in_ok-atom.ensures.noted l.invariant.noted;
    }

pub returns-clause-value : goal.returns-clause-value
returns-clause-value c =
    let l = c.loop-operand in
    each_value_end (numeric_operand c.args.scope.now) c.args.operands.now (atom_part c.args.minus) l.operand-index (map plain_part l.parts.items) _ c.loop-operand-test.false l.invariant.value

pub returns-clause-noted : goal.returns-clause-noted
returns-clause-noted c =
    let l = c.loop-operand in
    each_noted_end (numeric_operand c.args.scope.now) c.args.operands.now l.operand-index c.args.line l.findings.items _ c.loop-operand-test.false l.invariant.noted
