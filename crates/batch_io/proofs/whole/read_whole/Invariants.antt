use Rattle.std.proofs.Common.{◌≡◌, ◌≤◌, ◌-◌, ◌+◌, vec_len}
use Rattle.batch_io.specs.FilesState.{Gives}
use Rattle.batch_io.proofs.whole.read_whole.Given as goal

abbrev pub invariant-loop-bytes : goal.invariant-loop-bytes
invariant-loop-bytes g l = record {
  within : vec_len l.bytes ≤ l.limit;
  gives : Gives (g.F.Files.state l.initial.files) (g.F.Files.state l.files) l.id l.bytes.items;
  reading : (g.F.Files.state l.files).reading ≡ (g.F.Files.state l.initial.files).reading;
  writing : (g.F.Files.state l.files).writing ≡ (g.F.Files.state l.initial.files).writing;
}

abbrev pub decreases-loop-bytes : goal.decreases-loop-bytes
decreases-loop-bytes g l = l.limit + 1 - vec_len l.bytes
