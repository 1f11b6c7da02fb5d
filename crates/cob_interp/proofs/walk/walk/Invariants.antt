use Rattle.std.proofs.Common.{◌≡◌}
use Rattle.cob_interp.specs.Tracking.{AreOpen, ArePlaced, Tracks}
use Rattle.cob_interp.specs.Runs.{Outside, outside}
use Rattle.cob_interp.specs.Running.{IsAt}
use Rattle.cob_plan.specs.Stepping.{IsRest}
use Rattle.cob_interp.specs.Setting.{program_of, paths_of}
use Rattle.cob_interp.proofs.walk.walk.Given as goal

abbrev pub invariant-loop-steps : goal.invariant-loop-steps
invariant-loop-steps g l = record {
  rests : IsRest l.setting.plan.nodes.items l.node;
  kept : l.world.program ≡ l.fn.world.program;
  here : (start : Outside)
      → IsAt (program_of l.setting) l.setting.graph.now (paths_of l.setting) l.budget start
      (outside (g.F.Files.state l.fn.files) (g.O.Sink.state l.fn.out)) l.fn.world.world 0 1
      → IsAt (program_of l.setting) l.setting.graph.now (paths_of l.setting) l.budget start
      (outside (g.F.Files.state l.files) (g.O.Sink.state l.out)) l.world.world l.steps l.node;
  sink : (g.O.Sink.state l.out).faults ≡ (g.O.Sink.state l.fn.out).faults;
  live : AreOpen (g.F.Files.state l.files) l.handles;
  placed : ArePlaced (paths_of l.setting) (g.F.Files.state l.files) l.handles l.world.world.files;
  tracks : Tracks (g.F.Files.state l.fn.files) (g.F.Files.state l.files) l.fn.handles l.handles;
}
