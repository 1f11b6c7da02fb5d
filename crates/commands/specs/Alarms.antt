-- Open statements with the lines on which they stand.
use Rattle.std.specs.Prelude.{ℕ, ◌-◌, ◌≤◌, List, map, length, slice_get}
use Rattle.std.specs.Option.{option_map_or}
use Rattle.cob_tree.specs.declared.fault.Open.{Open}
use Rattle.cob_program.specs.Act.{Stmt, MkStmt, Program}
use Rattle.cob_program.specs.Statements.{program_statements}
use Rattle.commands.specs.declared.checking.alarms.Alarm.{Alarm}

abbrev pub line_of : Stmt → ℕ
line_of (MkStmt number line a) = line

-- Statements are numbered from 1 in the order of the source.
abbrev pub line_in : List Stmt → ℕ → ℕ
line_in statements number = option_map_or line_of (slice_get statements (number - 1)) 0

-- the pair is of one of the statements
abbrev pub IsStatementOf : List Stmt → Open → Type 0
IsStatementOf statements pair = (1 ≤ pair.statement) × (pair.statement ≤ length statements)

abbrev pub alarm_in : List Stmt → Open → Alarm
alarm_in statements pair =
    record { kind = pair.kind; statement = pair.statement; line = line_in statements pair.statement }

abbrev pub alarms_of : Program → List Open → List Alarm
alarms_of p pairs = map (alarm_in (program_statements p)) pairs
