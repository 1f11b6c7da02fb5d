use Rattle.std.proofs.Common.{ap, map, take_all, ◌∙◌}
use Rattle.cob_data.specs.Files.{breaks_status, is_wrong_status}
use Rattle.cob_data.proofs.StepLemmas.{mapped_step}
use Rattle.cob_data.proofs.names.flag_wrong_statuses.Goals as goal

pub loop-select-preserved : goal.loop-select-preserved
loop-select-preserved c = λ items are. mapped_step (breaks_status items) c.args.selects.now c.loop-select.select-index c.select-item.result c.loop-select.wrong.items c.push.new.self.items c.is_wrong_status-is_wrong.result c.loop-select-test.true c.select-item.is (c.is_wrong_status-is_wrong.ensures items are ∙ ap (is_wrong_status items) c.status_of.ensures) c.in_ok-push.ensures.items (c.loop-select.invariant items are)

pub returns : goal.returns
returns c = λ items are. c.loop-select.invariant items are ∙ ap (map (breaks_status items)) (take_all c.loop-select.select-index c.args.selects.now c.loop-select-test.false)
