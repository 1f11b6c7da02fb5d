use Rattle.std.proofs.Common.{◌≡◌, ◌<◌, false}
use Rattle.cob_interp.specs.Runs.{Outside}
use Rattle.cob_interp.specs.Running.{IsUnderway}
use Rattle.cob_plan.specs.Stepping.{rests, IsWithin}
use Rattle.cob_interp.specs.Setting.{program_of, paths_of}
use Rattle.cob_interp.specs.Tracking.{KeepsPlaces}
use Rattle.cob_interp.proofs.steps.go_through.Given as goal

abbrev pub invariant-loop-part : goal.invariant-loop-part
invariant-loop-part l = record {
  kept : l.world.program ≡ l.fn.world.program;
  within : IsWithin l.setting.plan.nodes.items l.at l.statement;
  counts : l._part < l.at;
  goes : rests l.setting.plan.nodes.items l.at ≡ false;
  underway : (now start : Outside)
      → IsUnderway (program_of l.setting) l.setting.graph.now (paths_of l.setting) start now l.fn.world.world
      l.step l.node
      → IsUnderway (program_of l.setting) l.setting.graph.now (paths_of l.setting) start now l.world.world l.step l.at;
  places : KeepsPlaces l.fn.world.world.files l.world.world.files;
}
