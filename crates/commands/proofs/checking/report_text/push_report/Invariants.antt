use Rattle.std.proofs.Common.{◌≡◌, ◌++◌, take}
use Rattle.std.specs.List.{flat_map}
use Rattle.commands.specs.ReportText.{alarm_text}
use Rattle.commands.proofs.checking.report_text.push_report.Given as goal

abbrev pub invariant-loop-alarm : goal.invariant-loop-alarm
invariant-loop-alarm l = l.text.items ≡ l.fn.text.items ++ flat_map alarm_text (take l.alarm-index l.alarms)
