use Rattle.std.proofs.Common.{ℕ, List, bytes_eq, ap, ◌∙◌}
use Rattle.std.specs.List.{list_any}
use Rattle.cob_data.proofs.StepLemmas.{mapped_step}
use Rattle.cob_data.proofs.names.flag_found.Goals as goal

pub loop-name-preserved : goal.loop-name-preserved
loop-name-preserved c =
    let stands = λ (q : List ℕ). list_any (λ k. bytes_eq q k.items) c.args.set.now.keys in
    mapped_step stands c.args.names.now c.loop-name.name-index c.name-item.result c.loop-name.found.items c.push.new.self.items c.contains-is_there.result c.loop-name-test.true c.name-item.is (c.contains-is_there.ensures ∙ ap stands c.get.ensures) c.in_ok-push.ensures.items c.loop-name.invariant
