use Rattle.std.proofs.Common.{rules}
use Rattle.cob_program.specs.ActView.{plain_when, plain_stmts, plain_whens}
use Rattle.cob_graph_build.specs.Tables.{IsTable}
use Rattle.cob_graph_build.specs.Growing.{plan}
use Rattle.cob_graph_build.proofs.Exact.{exact_whens}
use Rattle.cob_graph_build.proofs.within.Within.whens_nodes.Goals as goal

pub returns : goal.returns
returns c =
    let w = c.args.self.now in
    let known : IsTable (plan w) w.table.now = search rules in
    exact_whens (plan w) w.table.now known c.in_ok-nodes.nodes _ c.in_ok-nodes.ensures.told
    c.in_ok-nodes.ensures.below (plain_whens c.args.whens.now) c.whens_size.ensures
