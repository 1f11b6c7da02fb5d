use Rattle.std.proofs.Common.{◌≡◌, drop}
use Rattle.cob_program.specs.ActView.{plain_program, plain_stmts, plain_whens}
use Rattle.cob_runs.specs.Files.{Choice}
use Rattle.cob_runs.specs.Steps.{chosen}
use Rattle.cob_world.specs.Doing.{CanDoWhens}
use Rattle.cob_step.proofs.selecting.chosen.Given as goal

abbrev pub invariant-loop-when : goal.invariant-loop-when
invariant-loop-when l =
    ((c : Choice) → chosen (plain_program l.world.program) c l.world.world (plain_whens (drop l.when-index l.whens))
    (plain_stmts l.other)
    ≡ chosen (plain_program l.world.program) c l.world.world (plain_whens l.whens) (plain_stmts l.other))
    × CanDoWhens l.world.program.layout (plain_whens (drop l.when-index l.whens))
