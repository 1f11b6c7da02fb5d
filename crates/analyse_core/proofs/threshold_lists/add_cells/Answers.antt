use Rattle.std.proofs.Common.{◌+◌, ap, drop}
use Rattle.std.proofs.lemmas.List.{drop_all, drop_more}
use Rattle.cob_program.proofs.Loops.{added, nothing_left}
use Rattle.analyse_core.specs.Mentions.{lists_of}
use Rattle.analyse_core.specs.PackThresholds.{cells_thresholds}
use Rattle.analyse_core.proofs.threshold_lists.add_cells.Goals as goal

pub loop-number-preserved : goal.loop-number-preserved
loop-number-preserved c =
    let l = c.loop-number in
    let lists = lists_of c.args.lists.now in
    added _ _ _ (cells_thresholds c.args.cells.now lists c.args.decimals (drop (l.number-index + 1) c.args.numbers.now)) _ _ c.in_ok-add_cell.ensures
    (ap (cells_thresholds c.args.cells.now lists c.args.decimals) (drop_more c.args.numbers.now l.number-index _ c.loop-number-test.true))
    l.invariant

pub returns : goal.returns
returns c =
    let l = c.loop-number in
    let lists = lists_of c.args.lists.now in
    nothing_left _ _ (cells_thresholds c.args.cells.now lists c.args.decimals (drop l.number-index c.args.numbers.now))
    (ap (cells_thresholds c.args.cells.now lists c.args.decimals) (drop_all l.number-index c.args.numbers.now c.loop-number-test.false))
    l.invariant
