use Rattle.std.proofs.Common.{◌≡◌, drop, take}
use Rattle.cob_store.specs.Moving.{all_moved, behind, AreAsLong}
use Rattle.cob_store.proofs.moves.moved_all.Given as goal

abbrev pub invariant-loop-place : goal.invariant-loop-place
invariant-loop-place l = record {
  left : all_moved l.layout l.storage l.sender l.to ≡ behind l.values.items (all_moved l.layout l.storage l.sender (drop l.place-index l.to));
  lengths : AreAsLong l.layout (take l.place-index l.to) l.values.items;
}
