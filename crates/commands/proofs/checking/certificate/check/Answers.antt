use Rattle.batch_io.specs.FilesState.{known_bytes}
use Rattle.commands.proofs.Certificates.{answers_read, answers_unread}
use Rattle.commands.proofs.checking.certificate.check.Goals as goal

pub check_program-requires : goal.check_program-requires
check_program-requires g c = (c.in-Ok.ensures.holds.bytes, c.in-Ok.ensures.holds.is_laid)

pub returns-in-Ok-clause-answer : goal.returns-in-Ok-clause-answer
returns-in-Ok-clause-answer g c =
    answers_read c.args.source.now c.args.certificate.now c.check_program.result c.in-Ok.laid
    (known_bytes (g.F.Files.state c.args.files.now)) (known_bytes (g.F.Files.state c.read_source.new.files))
    c.in-Ok.ensures.holds c.in-Ok.ensures.reads.contents c.check_program.ensures.answer

pub returns-in-Err-clause-answer : goal.returns-in-Err-clause-answer
returns-in-Err-clause-answer g c =
    answers_unread c.args.source.now c.args.certificate.now c.in-Err.found
    (known_bytes (g.F.Files.state c.args.files.now)) c.in-Err.ensures.answer
