use Rattle.std.proofs.Common.{◌≡◌, map, take}
use Rattle.cob_program.specs.Statements.{plain_references}
use Rattle.commands.specs.Alarms.{alarm_in}
use Rattle.commands.proofs.checking.alarms.alarms_among.Given as goal

abbrev pub invariant-loop-pair : goal.invariant-loop-pair
invariant-loop-pair l = l.alarms.items ≡ map (alarm_in (plain_references l.statements)) (take l.pair-index l.pairs)
