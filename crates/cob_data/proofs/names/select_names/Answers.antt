use Rattle.std.proofs.Common.{◌∙◌}
use Rattle.cob_tree.specs.declared.front.Select.{Select}
use Rattle.cob_data.proofs.StepLemmas.{mapped_step}
use Rattle.cob_data.proofs.names.select_names.Goals as goal

pub loop-select-preserved : goal.loop-select-preserved
loop-select-preserved c = mapped_step (λ (s : Select). s.name) c.args.selects.now c.loop-select.select-index c.select-item.result c.loop-select.names.items _ _ c.loop-select-test.true c.select-item.is (c.in_ok-name.ensures ∙ c.get.ensures) c.in_ok-push.ensures.items c.loop-select.invariant
