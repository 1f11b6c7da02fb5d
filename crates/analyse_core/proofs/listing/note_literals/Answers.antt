use Rattle.std.proofs.Common.{◌+◌, ap, drop}
use Rattle.std.proofs.lemmas.List.{drop_all}
use Rattle.cob_program.proofs.Loops.{item_step}
use Rattle.analyse_core.specs.Literals.{numbers_of}
use Rattle.analyse_core.specs.Thresholds.{noted_beside}
use Rattle.analyse_core.proofs.Noting.{fold_step, fold_done}
use Rattle.analyse_core.proofs.listing.note_literals.Goals as goal

pub loop-number-preserved : goal.loop-number-preserved
loop-number-preserved c =
    let l = c.loop-number in
    fold_step (noted_beside c.args.own c.args.scale) _ _ _ _ (numbers_of (drop (l.number-index + 1) c.args.literals.now)) _
    c.in_ok-note_literal.ensures
    (ap numbers_of (item_step c.args.literals.now l.number-index c.number-item.result c.loop-number-test.true c.number-item.is))
    l.invariant

pub returns : goal.returns
returns c =
    let l = c.loop-number in
    fold_done (noted_beside c.args.own c.args.scale) _ (numbers_of (drop l.number-index c.args.literals.now)) _
    (ap numbers_of (drop_all l.number-index c.args.literals.now c.loop-number-test.false))
    l.invariant
