use Rattle.std.proofs.Common.{◌∙◌, ap}
use Rattle.cob_program.specs.ActView.{plain_program}
use Rattle.commands.specs.Alarms.{alarms_of}
use Rattle.commands.proofs.Limits.{within_limits}
use Rattle.commands.proofs.checking.certificate.check_certificate.Goals as goal

pub check-requires-clause-source : goal.check-requires-clause-source
check-requires-clause-source c =
    let is = c.requires.source.1 in
    ∣ c.sources_have_source_graphs.ensures c.requires.source.0 (plain_program c.args.laid.now.program)
    c.args.laid.now.graph is.is_source is.is_graph ∣₁

pub check-requires-clause-limits : goal.check-requires-clause-limits
check-requires-clause-limits c =
    let is = c.requires.source.1 in
    within_limits (plain_program c.args.laid.now.program) is.within c.args.laid.now.graph is.is_graph

pub returns-in_ok-alarms_of-in-Ok : goal.returns-in_ok-alarms_of-in-Ok
returns-in_ok-alarms_of-in-Ok c = (
  c.in-Ok.pairs.items,
  c.in-Ok.ensures.exact,
  c.in_ok-alarms_of-in-Ok.ensures ∙ ap (alarms_of (plain_program c.args.laid.now.program)) c.deref.ensures.value,
)
