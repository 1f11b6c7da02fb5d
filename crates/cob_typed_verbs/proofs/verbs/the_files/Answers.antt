use Rattle.cob_typed_verbs.specs.Verbs.{the_file}
use Rattle.cob_typed_verbs.proofs.FileLemmas.{file_more, some_end}
use Rattle.cob_typed_exprs.proofs.EachLemmas.{each_noted, each_noted_end}
use Rattle.cob_typed_verbs.proofs.verbs.the_files.Goals as goal

pub loop-name-preserved : goal.loop-name-preserved
loop-name-preserved c =
    let l = c.loop-name in
    let x = c.name-item.result in record {
      value = file_more (the_file c.args.scope.now) c.args.names.now l.name-index x l.files.items c.add_file.new.files.items _ c.loop-name-test.true c.name-item.is c.in_ok-add_file.ensures.value l.invariant.value;
      noted = each_noted (the_file c.args.scope.now) c.args.names.now l.name-index c.args.line x l.findings.items c.add_file.new.findings.items _ c.loop-name-test.true c.name-item.is c.in_ok-add_file.ensures.noted l.invariant.noted;
    }

pub returns-clause-value : goal.returns-clause-value
returns-clause-value c = some_end (the_file c.args.scope.now) c.args.names.now c.loop-name.name-index c.loop-name.files.items _ c.loop-name-test.false c.loop-name.invariant.value

pub returns-clause-noted : goal.returns-clause-noted
returns-clause-noted c =
    each_noted_end (the_file c.args.scope.now) c.args.names.now c.loop-name.name-index c.args.line c.loop-name.findings.items _ c.loop-name-test.false c.loop-name.invariant.noted
