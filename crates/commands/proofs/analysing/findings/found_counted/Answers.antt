use Rattle.cert_text.specs.View.{view}
use Rattle.cob_program.specs.ActView.{plain_program}
use Rattle.commands.proofs.Limits.{within_limits}
use Rattle.commands.proofs.Telling.{weaker_finding}
use Rattle.commands.proofs.analysing.findings.found_counted.Goals as goal

pub find-requires-clause-source : goal.find-requires-clause-source
find-requires-clause-source g c =
    let is = c.requires.source.1 in
    ∣ c.sources_have_source_graphs.ensures c.requires.source.0 (plain_program c.args.laid.now.program)
    c.args.laid.now.graph is.is_source is.is_graph ∣₁

pub find-requires-clause-limits : goal.find-requires-clause-limits
find-requires-clause-limits g c =
    let is = c.requires.source.1 in
    within_limits (plain_program c.args.laid.now.program) is.within c.args.laid.now.graph is.is_graph

pub texts_of-requires-clause-found : goal.texts_of-requires-clause-found
texts_of-requires-clause-found g c =
    let is = c.in_ok-found.ensures in
    record {
      allowed = is.allowed;
      packs = is.packs;
      accepts = is.accepted;
      misses_nothing = is.complete;
      misses_nothing_together = is.together;
    }

pub returns : goal.returns
returns g c = weaker_finding c.args.laid.now (view c.in_ok-found.found.cert) c.texts_of.result c.texts_of.ensures
