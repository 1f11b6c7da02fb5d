use Rattle.batch_io.specs.FilesState.{known_bytes}
use Rattle.commands.proofs.Telling.{found_in}
use Rattle.commands.proofs.analysing.findings.findings_for.Goals as goal

pub found_for-requires : goal.found_for-requires
found_for-requires g c = (c.in-Ok.ensures.holds.bytes, c.in-Ok.ensures.holds.is_laid)

pub returns-in-Ok-found_for-clause-finding : goal.returns-in-Ok-found_for-clause-finding
returns-in-Ok-found_for-clause-finding g c =
    found_in c.in-Ok.laid (known_bytes (g.F.Files.state c.args.files.now)) c.args.source.now c.in-Ok.ensures.holds
    c.in-Ok-found_for.findings c.in-Ok-found_for.ensures
