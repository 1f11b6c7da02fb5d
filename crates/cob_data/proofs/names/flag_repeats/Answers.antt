use Rattle.std.proofs.Common.{not, take, ap, refl, ◌∙◌, rules}
use Rattle.cob_data.specs.Names.{stands_in}
use Rattle.cob_data.proofs.NameLemmas.{inserted, repeats_step, was_there}
use Rattle.cob_data.proofs.names.flag_repeats.Goals as goal

pub loop-place-init : goal.loop-place-init
loop-place-init c = record {
  keys = λ q. rw c.requires refl;
  same = search rules;
}

pub loop-place-preserved : goal.loop-place-preserved
loop-place-preserved c =
    let spelled = c.in_ok-key.ensures.items ∙ c.get.ensures in
    let stood = c.loop-place.invariant.keys c.in_ok-key.key.items ∙ ap (stands_in (take c.loop-place.place c.args.names.now)) spelled in
    record {
      keys = inserted (λ k. k.items) c.loop-place.seen.keys c.insert.new.self.keys c.in_ok-key.key c.args.names.now c.loop-place.place c.index-names-place.result c.loop-place-test.true c.index-names-place.is spelled c.in_ok-is_new.ensures.keys c.loop-place.invariant.keys;
      same = repeats_step c.args.names.now c.loop-place.place c.index-names-place.result c.loop-place.repeated.items c.push.new.self.items _ (not c.in_ok-is_new.is_new) c.loop-place-test.true c.index-names-place.is (was_there _ _ _ c.in_ok-is_new.ensures.added stood) c.in_ok-push.ensures.items c.loop-place.invariant.same;
    }
