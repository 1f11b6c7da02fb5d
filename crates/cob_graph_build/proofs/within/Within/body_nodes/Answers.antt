use Rattle.std.proofs.Common.{rules}
use Rattle.cob_program.specs.ActView.{plain_body, plain_stmts, plain_whens}
use Rattle.cob_graph_build.specs.Tables.{IsTable}
use Rattle.cob_graph_build.specs.Growing.{plan}
use Rattle.cob_graph_build.proofs.Exact.{exact_body}
use Rattle.cob_graph_build.proofs.within.Within.body_nodes.Goals as goal

pub returns : goal.returns
returns c =
    let w = c.args.self.now in
    let known : IsTable (plan w) w.table.now = search rules in
    exact_body (plan w) w.table.now known c.in_ok-nodes.nodes _ c.in_ok-nodes.ensures.told c.in_ok-nodes.ensures.below
    (plain_body c.args.body.now) c.body_size.ensures
