use Rattle.std.proofs.Common.{◌∙◌}
use Rattle.cob_typed_exprs.specs.Judged.{each_of}
use Rattle.cob_typed_verbs.specs.Verbs.{receiver}
use Rattle.cob_typed_exprs.proofs.EachLemmas.{each_value, each_noted, each_value_end, each_noted_end, map_same}
use Rattle.cob_typed_verbs.proofs.verbs.receivers.Goals as goal

pub loop-reference-preserved : goal.loop-reference-preserved
loop-reference-preserved c =
    let l = c.loop-reference in
    let x = c.reference-item.result in record {
      value = each_value (receiver c.args.scope.now c.args.value.now) c.args.to.now (λ y. y) l.reference-index x l.places.items c.push.new.self.items _ c.in_ok-receiver.field-0 c.loop-reference-test.true c.reference-item.is c.in_ok-receiver.ensures.value c.in_ok-push.ensures.items l.invariant.value;
      noted = each_noted (receiver c.args.scope.now c.args.value.now) c.args.to.now l.reference-index c.args.line x l.findings.items c.receiver.new.findings.items _ c.loop-reference-test.true c.reference-item.is c.in_ok-receiver.ensures.noted l.invariant.noted;
    }

pub returns-clause-value : goal.returns-clause-value
returns-clause-value c =
    let l = c.loop-reference in
    each_value_end (receiver c.args.scope.now c.args.value.now) c.args.to.now (λ y. y) l.reference-index l.places.items _ c.loop-reference-test.false l.invariant.value ∙ map_same (each_of (receiver c.args.scope.now c.args.value.now) c.args.to.now).value

pub returns-clause-noted : goal.returns-clause-noted
returns-clause-noted c =
    let l = c.loop-reference in
    each_noted_end (receiver c.args.scope.now c.args.value.now) c.args.to.now l.reference-index c.args.line l.findings.items _ c.loop-reference-test.false l.invariant.noted
