use Rattle.batch_io.specs.FilesState.{KeepsIds}
use Rattle.cob_interp.specs.Readying.{Sees, AreEmptied}
use Rattle.cob_interp.specs.Setting.{paths_of}
use Rattle.cob_interp.specs.Tracking.{AreOpen, AreWritten}
use Rattle.cob_interp.proofs.runs.write_all.Given as goal

-- of those at the first places nothing waits
abbrev pub invariant-loop-place : goal.invariant-loop-place
invariant-loop-place g l = record {
  sees : Sees (paths_of l.setting) (g.F.Files.state l.fn.files) (g.F.Files.state l.files) l.fn.world.world l.world.world;
  none : AreEmptied l.world.world.files l.place;
  live : AreOpen (g.F.Files.state l.files) l.handles;
  written : AreWritten (paths_of l.setting) (g.F.Files.state l.files) l.handles l.world.world.files;
  ids : KeepsIds (g.F.Files.state l.fn.files) (g.F.Files.state l.files);
}
