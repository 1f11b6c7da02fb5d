use Rattle.cob_program.specs.ActView.{plain_program}
use Rattle.cob_graph_build.proofs.LimitLemmas.{limit_told}
use Rattle.cob_graph_build.proofs.flow.graph_of.Goals as goal

pub returns-clause-exact : goal.returns-clause-exact
returns-clause-exact c =
    limit_told (plain_program c.args.program.now) c.graph_or_limit.result c.graph_or_limit.ensures.graph
    c.graph_or_limit.ensures.within c.graph_or_limit.ensures.limit c.graph_or_limit.ensures.inside
