use Rattle.std.proofs.Common.{refl}
use Rattle.cert_text.proofs.CellLoops.{cell_step, cell_stop, cells_end}
use Rattle.cert_text.proofs.draft.push_cells.Goals as goal

pub loop-number-init : goal.loop-number-init
loop-number-init c = refl

pub loop-number-preserved : goal.loop-number-preserved
loop-number-preserved c =
    let l = c.loop-number in
    cell_step c.args.cells l.last l.number-index c.in-Some.cell _ c.args.numbers.now l.pack.items c.push.new.self.items _ c.loop-number-test.true c.in-Some.ensures c.in_ok-push-in-Some.ensures.items l.invariant

pub returns : goal.returns
returns c =
    let l = c.loop-number in
    cells_end c.args.cells l.last l.number-index c.args.numbers.now l.pack.items _ c.loop-number-test.false l.invariant

pub returns-in-None : goal.returns-in-None
returns-in-None c =
    let l = c.loop-number in
    cell_stop c.args.cells l.last l.number-index _ c.args.numbers.now l.pack.items _ c.loop-number-test.true c.in-None.ensures l.invariant
