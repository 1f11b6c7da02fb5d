use Rattle.std.proofs.Common.{◌∙◌, ap}
use Rattle.cob_program.specs.Act.{open_files}
use Rattle.cob_typed_verbs.proofs.FileLemmas.{openings_value, openings_noted, openings_value_end, openings_noted_end}
use Rattle.cob_typed_verbs.proofs.verbs.open_act.Goals as goal

pub loop-some-preserved : goal.loop-some-preserved
loop-some-preserved c =
    let l = c.loop-some in
    let x = c.some-item.result in record {
      value = openings_value c.args.scope.now c.args.opens.now l.some-index x l.list.items c.add_openings.new.list.items _ c.loop-some-test.true c.some-item.is c.in-Ok.ensures.value l.invariant.value;
      noted = openings_noted c.args.scope.now c.args.opens.now l.some-index c.args.line x l.findings.items c.add_openings.new.findings.items _ c.loop-some-test.true c.some-item.is c.in-Ok.ensures.noted l.invariant.noted;
    }

pub returns-clause-value : goal.returns-clause-value
returns-clause-value c =
    c.open_of.ensures ∙ ap open_files (openings_value_end c.args.scope.now c.args.opens.now c.loop-some.some-index c.loop-some.list.items _ c.loop-some-test.false c.loop-some.invariant.value)

pub returns-clause-noted : goal.returns-clause-noted
returns-clause-noted c =
    openings_noted_end c.args.scope.now c.args.opens.now c.loop-some.some-index c.args.line c.loop-some.findings.items _ c.loop-some-test.false c.loop-some.invariant.noted
