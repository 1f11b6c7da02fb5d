use Rattle.std.proofs.Common.{ap, sym, ◌∙◌}
use Rattle.std.proofs.lemmas.Bool.{false≢true}
use Rattle.cob_runs.specs.Effects.{act_at}
use Rattle.cob_interp.specs.Setting.{program_of}
use Rattle.cob_interp.proofs.FitLemmas.{node_there}
use Rattle.cob_interp.proofs.setting.Setting.place.Goals as goal

pub unreachable-requires : goal.unreachable-requires
unreachable-requires c =
    node_there c.args.self.now.plan.nodes.items c.args.node c.requires.above c.requires.below (sym c.in-None.ensures.at)

pub unreachable-requires-in-None-statement : goal.unreachable-requires-in-None-statement
unreachable-requires-in-None-statement c =
    false≢true (c.in-None-statement.ensures.listed
    (c.requires.ready.steps.listed c.args.node c.in-Some.plan_node.now (sym c.in-Some.ensures.at) c.requires.below))

pub returns-clause-is : goal.returns-clause-is
returns-clause-is c =
    let p = program_of c.args.self.now in
    let statement = c.in-Some-statement.ensures.sound p c.requires.ready.statements in
    let found = c.in-Some-statement.ensures.found in
    record {
      plan_node = c.in-Some.ensures.is c.args.self.now.graph.now c.requires.ready.nodes;
      statement = statement;
      fits = c.requires.ready.steps.fits c.args.node c.in-Some.plan_node.now (sym c.in-Some.ensures.at) c.requires.below _
          (ap (act_at p) (sym found) ∙ statement.its);
      number = found;
    }

pub returns-clause-fits : goal.returns-clause-fits
returns-clause-fits c =
    let at = sym c.in-Some.ensures.at in
    record {
      above = c.requires.above;
      below = c.requires.below;
      at = at;
      leads = c.requires.ready.steps.leads c.args.node c.in-Some.plan_node.now at c.requires.below;
    }
