use Rattle.std.proofs.Common.{◌≡◌, ◌≤◌, ◌-◌, length, take}
use Rattle.batch_io.specs.FilesState.{Gives}
use Rattle.batch_io.proofs.whole.read_record.Given as goal

abbrev pub invariant-loop-done : goal.invariant-loop-done
invariant-loop-done g l = record {
  within : l.done ≤ length l.buf;
  gives : Gives (g.F.Files.state l.initial.files) (g.F.Files.state l.files) l.id (take l.done l.buf);
  reading : (g.F.Files.state l.files).reading ≡ (g.F.Files.state l.initial.files).reading;
  writing : (g.F.Files.state l.files).writing ≡ (g.F.Files.state l.initial.files).writing;
}

abbrev pub decreases-loop-done : goal.decreases-loop-done
decreases-loop-done g l = length l.buf - l.done
