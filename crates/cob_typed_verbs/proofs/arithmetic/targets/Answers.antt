use Rattle.std.proofs.Common.{◌∙◌}
use Rattle.cob_typed_exprs.specs.Judged.{each_of}
use Rattle.cob_typed_verbs.specs.Arithmetic.{target}
use Rattle.cob_typed_exprs.proofs.EachLemmas.{each_value, each_noted, each_value_end, each_noted_end, map_same}
use Rattle.cob_typed_verbs.proofs.arithmetic.targets.Goals as goal

pub loop-receiver-preserved : goal.loop-receiver-preserved
loop-receiver-preserved c =
    let l = c.loop-receiver in
    let x = c.receiver-item.result in record {
      value = each_value (target c.args.scope.now c.args.how) c.args.receivers.now (λ y. y) l.receiver-index x l.targets.items c.push.new.self.items _ c.in_ok-target_of.field-0 c.loop-receiver-test.true c.receiver-item.is c.in_ok-target_of.ensures.value c.in_ok-push.ensures.items l.invariant.value;
      noted = each_noted (target c.args.scope.now c.args.how) c.args.receivers.now l.receiver-index c.args.line x l.findings.items c.target_of.new.findings.items _ c.loop-receiver-test.true c.receiver-item.is c.in_ok-target_of.ensures.noted l.invariant.noted;
    }

pub returns-clause-value : goal.returns-clause-value
returns-clause-value c =
    let l = c.loop-receiver in
    each_value_end (target c.args.scope.now c.args.how) c.args.receivers.now (λ y. y) l.receiver-index l.targets.items _ c.loop-receiver-test.false l.invariant.value ∙ map_same (each_of (target c.args.scope.now c.args.how) c.args.receivers.now).value

pub returns-clause-noted : goal.returns-clause-noted
returns-clause-noted c =
    let l = c.loop-receiver in
    each_noted_end (target c.args.scope.now c.args.how) c.args.receivers.now l.receiver-index c.args.line l.findings.items _ c.loop-receiver-test.false l.invariant.noted
