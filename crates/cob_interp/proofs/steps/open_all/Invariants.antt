use Rattle.std.proofs.Common.{◌≡◌, ◌<◌}
use Rattle.batch_io.specs.SinkState.{SinkState}
use Rattle.cob_interp.specs.Runs.{Outside, outside}
use Rattle.cob_interp.specs.Running.{IsUnderway}
use Rattle.cob_plan.specs.Stepping.{IsWithin}
use Rattle.std.specs.Prelude.{take}
use Rattle.cob_interp.specs.Setting.{OpensAt, program_of, paths_of}
use Rattle.cob_interp.specs.Touching.{Makes, OpensOnly, makes_in}
use Rattle.cob_interp.specs.Tracking.{AreOpen, ArePlaced, Tracks}
use Rattle.cob_interp.proofs.steps.open_all.Given as goal

-- the first files were opened
abbrev pub invariant-loop-turn : goal.invariant-loop-turn
invariant-loop-turn g l = record {
  kept : l.world.program ≡ l.fn.world.program;
  within : IsWithin l.setting.plan.nodes.items l.at l.statement;
  counts : l._turn < l.at;
  underway : (sink : SinkState) (start : Outside)
      → IsUnderway (program_of l.setting) l.setting.graph.now (paths_of l.setting) start
      (outside (g.F.Files.state l.fn.files) sink)
      l.fn.world.world l.step l.node
      → IsUnderway (program_of l.setting) l.setting.graph.now (paths_of l.setting) start
      (outside (g.F.Files.state l.files) sink)
      l.world.world l.step l.at;
  opens : OpensAt l.setting l.at l._turn;
  touches : Makes (paths_of l.setting) (makes_in (take l._turn l.openings)) l.fn.world.world (g.F.Files.state l.fn.files)
      (g.F.Files.state l.files);
  only : OpensOnly l.fn.world.world l.world.world;
  live : AreOpen (g.F.Files.state l.files) l.handles;
  placed : ArePlaced (paths_of l.setting) (g.F.Files.state l.files) l.handles l.world.world.files;
  tracks : Tracks (g.F.Files.state l.fn.files) (g.F.Files.state l.files) l.fn.handles l.handles;
}
