use Rattle.std.proofs.Common.{◌≡◌, None, replicate}
use Rattle.cob_interp.specs.Tracking.{AreNone, purposes_for}
use Rattle.cob_interp.proofs.handles.Handles.none.Given as goal

abbrev pub invariant-loop : goal.invariant-loop
invariant-loop l = record {
  none : AreNone l.ids.items;
  purposes : purposes_for l.ids.items ≡ replicate l.counter None;
}
