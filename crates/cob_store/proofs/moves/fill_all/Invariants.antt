use Rattle.std.proofs.Common.{◌≡◌, drop}
use Rattle.cob_store.specs.Moving.{all_filled}
use Rattle.cob_store.proofs.moves.fill_all.Given as goal

abbrev pub invariant-loop-at : goal.invariant-loop-at
invariant-loop-at l = all_filled l.layout l.storage (drop l.at l.to) (drop l.at l.values) ≡ all_filled l.layout l.initial.storage l.to l.values
