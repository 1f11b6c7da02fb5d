use Rattle.std.proofs.Common.{◌∙◌}
use Rattle.cob_tree.specs.declared.front.Fd.{Fd}
use Rattle.cob_data.proofs.StepLemmas.{mapped_step}
use Rattle.cob_data.proofs.names.fd_names.Goals as goal

pub loop-fd-preserved : goal.loop-fd-preserved
loop-fd-preserved c = mapped_step (λ (f : Fd). f.name) c.args.fds.now c.loop-fd.fd-index c.fd-item.result c.loop-fd.names.items _ _ c.loop-fd-test.true c.fd-item.is (c.in_ok-name.ensures ∙ c.get.ensures) c.in_ok-push.ensures.items c.loop-fd.invariant
