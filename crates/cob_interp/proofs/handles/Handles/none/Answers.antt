use Rattle.std.proofs.Common.{◌∙◌, ap}
use Rattle.cob_interp.specs.Tracking.{Ids, purposes_for}
use Rattle.cob_interp.proofs.HandleLemmas.{none_more}
use Rattle.cob_interp.proofs.Purposes.{none_pushed}
use Rattle.cob_interp.proofs.handles.Handles.none.Goals as goal

pub loop-preserved : goal.loop-preserved
loop-preserved c =
    let pushed = c.in_ok-push.ensures.items in
    record {
      none = rw pushed (none_more c.loop.ids.items c.loop.invariant.none);
      purposes = ap (λ (ids : Ids). purposes_for ids) pushed
          ∙ none_pushed c.loop.ids.items c.loop.counter c.loop.invariant.purposes;
    }
