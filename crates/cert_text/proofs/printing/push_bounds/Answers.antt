use Rattle.cert_text.specs.Text.{bound_entry}
use Rattle.cert_text.proofs.Printed.{text_step}
use Rattle.cert_text.proofs.printing.push_bounds.Goals as goal

pub loop-bound-preserved : goal.loop-bound-preserved
loop-bound-preserved c = text_step bound_entry c.args.text.now.items c.args.bounds.now c.loop-bound.bound-index _ c.loop-bound.text.items c.push_bound.new.text.items c.loop-bound-test.true c.loop-bound.invariant c.in_ok-push_bound.ensures
