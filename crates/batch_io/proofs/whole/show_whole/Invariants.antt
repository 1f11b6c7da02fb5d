use Rattle.std.proofs.Common.{◌≡◌, ◌≤◌, ◌-◌, length, take}
use Rattle.std.specs.Io.KnownBytes.{append_known}
use Rattle.batch_io.proofs.whole.show_whole.Given as goal

abbrev pub invariant-loop-done : goal.invariant-loop-done
invariant-loop-done g l = record {
  within : l.done ≤ length l.bytes;
  told : (g.O.Sink.state l.out).told ≡ append_known (g.O.Sink.state l.initial.out).told (take l.done l.bytes);
  faults : (g.O.Sink.state l.out).faults ≡ (g.O.Sink.state l.initial.out).faults;
}

abbrev pub decreases-loop-done : goal.decreases-loop-done
decreases-loop-done g l = length l.bytes - l.done
