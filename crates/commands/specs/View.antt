-- The code's answers as plain data.
use Rattle.std.specs.Prelude.{Result, Ok, Err, string_bytes}
use Rattle.commands.specs.declared.answer.Stop.{Stop}
use Rattle.commands.specs.declared.answer.Answer.TheVariants as code
use Rattle.commands.specs.declared.answer.Answer as declared
use Rattle.commands.specs.Answer.{Answer, Usage, Absent, Refused, CertificateLong, CertificateBad, CertificateMisfit, NotInductive, Report}

abbrev pub plain_answer : declared.Answer → Answer
plain_answer (code.Usage word) = Usage word.now
plain_answer (code.NoPaths word) = Usage (string_bytes word)
plain_answer (code.Absent name) = Absent name.now
plain_answer (code.Refused cause) = Refused cause
plain_answer code.CertificateLong = CertificateLong
plain_answer (code.CertificateBad line) = CertificateBad line
plain_answer (code.CertificateMisfit what found wanted) = CertificateMisfit what found wanted
plain_answer (code.NotInductive layer edge gap) = NotInductive layer edge gap
plain_answer (code.Report alarms) = Report alarms.items

abbrev pub plain_result : Result declared.Answer Stop → Result Answer Stop
plain_result (Ok answer) = Ok (plain_answer answer)
plain_result (Err stop) = Err stop
