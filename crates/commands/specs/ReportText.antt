-- The text of a report: `clean`, or a line for each alarm and their number.
use Rattle.std.specs.Prelude.{ℕ, List, [], ◌∷◌, ◌++◌, length, codes, decimal}
use Rattle.std.specs.List.{flat_map}
use Rattle.cob_tree.specs.Kinds.{kind_text}
use Rattle.commands.specs.declared.checking.alarms.Alarm.{Alarm}

abbrev pub line_end : List ℕ
line_end = 10 ∷ []

abbrev pub alarm_text : Alarm → List ℕ
alarm_text alarm =
    kind_text alarm.kind ++ codes " statement " ++ decimal alarm.statement
    ++ codes " line " ++ decimal alarm.line ++ line_end

abbrev pub report_text : List Alarm → List ℕ
report_text [] = codes "clean" ++ line_end
report_text (alarm ∷ alarms) =
    flat_map alarm_text (alarm ∷ alarms) ++ codes "alarms " ++ decimal (length (alarm ∷ alarms)) ++ line_end
