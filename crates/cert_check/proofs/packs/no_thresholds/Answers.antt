use Rattle.std.proofs.Common.{◌+◌, rules, sym, subst}
use Rattle.cert_check.specs.Given.{AreEmptyLists}
use Rattle.cert_check.proofs.PackNumbers.{one_list_more}
use Rattle.cert_check.proofs.packs.no_thresholds.Goals as goal

pub loop-pack-preserved : goal.loop-pack-preserved
loop-pack-preserved c =
    let l = c.loop-pack in
    subst (AreEmptyLists (l._pack-index + 1)) (sym c.in_ok-push.ensures.items) (one_list_more l._pack-index l.lists.items _ l.invariant (search rules))
