use Rattle.std.proofs.Common.{refl}
use Rattle.cob_data.proofs.NameLemmas.{noted_step, single_is}
use Rattle.cob_data.proofs.names.note_items.Goals as goal

pub loop-place-init : goal.loop-place-init
loop-place-init c = λ q. rw c.requires refl

pub loop-place-preserved : goal.loop-place-preserved
loop-place-preserved c = λ q. noted_step q c.args.items.now c.loop-place.place c.index-items-place.result _ _ c.loop-place-test.true c.index-items-place.is (c.loop-place.invariant q) (c.in_ok-note_item.ensures q)

pub returns : goal.returns
returns c = λ q. single_is q c.args.items.now c.loop-place.place _ c.loop-place-test.false (c.loop-place.invariant q)
