use Rattle.std.proofs.Common.{◌≡◌, false, drop}
use Rattle.cob_runs.specs.Computing.{receiving}
use Rattle.cob_calc.specs.Receiving.{receive_all_by, CanReceiveAll}
use Rattle.cob_calc.proofs.receivers.receive_all.Given as goal

abbrev pub invariant-loop-target : goal.invariant-loop-target
invariant-loop-target l = record {
  left : receive_all_by l.layout l.phrase l.worked (receiving l.storage l.failed) (drop l.target-index l.targets) ≡ receive_all_by l.layout l.phrase l.worked (receiving l.initial.storage false) l.targets;
  can : CanReceiveAll l.layout l.worked (drop l.target-index l.targets);
}
