use Rattle.cob_program.specs.ActView.{plain_program}
use Rattle.commands.proofs.Certificates.{no_usage_of_bytes}
use Rattle.commands.proofs.checking.certificate.check_program.Goals as goal

pub returns-in-Ok-clause-usage : goal.returns-in-Ok-clause-usage
returns-in-Ok-clause-usage g c =
    no_usage_of_bytes (plain_program c.args.laid.now.program) c.args.laid.now.graph c.deref.result.now
    c.check_bytes.result c.check_bytes.ensures
