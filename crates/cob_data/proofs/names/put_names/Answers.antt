use Rattle.std.proofs.Common.{refl, ap, take_all, ◌∙◌}
use Rattle.cob_data.specs.Names.{stands_in}
use Rattle.cob_data.proofs.NameLemmas.{inserted}
use Rattle.cob_data.proofs.names.put_names.Goals as goal

pub loop-place-init : goal.loop-place-init
loop-place-init c = λ q. rw c.requires refl

pub loop-place-preserved : goal.loop-place-preserved
loop-place-preserved c = inserted (λ k. k.items) c.loop-place.set.keys c.insert.new.self.keys c.in_ok-key.key c.args.names.now c.loop-place.place c.index-names-place.result c.loop-place-test.true c.index-names-place.is (c.in_ok-key.ensures.items ∙ c.get.ensures) c.in_ok-insert.ensures.keys c.loop-place.invariant

pub returns : goal.returns
returns c = λ q. c.loop-place.invariant q ∙ ap (λ names. stands_in names q) (take_all c.loop-place.place c.args.names.now c.loop-place-test.false)
