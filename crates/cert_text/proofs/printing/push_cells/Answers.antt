use Rattle.cert_text.proofs.Printed.{numbers_text_step}
use Rattle.cert_text.proofs.printing.push_cells.Goals as goal

pub loop-cell-preserved : goal.loop-cell-preserved
loop-cell-preserved c = numbers_text_step c.args.text.now.items c.args.cells.now c.loop-cell.cell-index _ c.loop-cell.text.items c.push_number.new.text.items c.loop-cell-test.true c.loop-cell.invariant c.in_ok-push_number.ensures
