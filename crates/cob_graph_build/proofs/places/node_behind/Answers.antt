use Rattle.std.proofs.Common.{◌≡◌, true, sym, ap, ◌∙◌, rules}
use Rattle.cob_graph.specs.Nodes.{list_nodes}
use Rattle.cob_program.specs.ActView.{plain_stmts}
use Rattle.cob_graph_build.specs.Growing.{plan}
use Rattle.cob_graph_build.specs.Tables.{lay_list}
use Rattle.cob_graph_build.proofs.PlaceLemmas.{nothing_follows}
use Rattle.cob_graph_build.proofs.places.node_behind.Goals as goal

pub returns-then-is_empty : goal.returns-then-is_empty
returns-then-is_empty c = λ copied copies begin.
    let e : c.is_empty.result ≡ true = search rules in
    nothing_follows (plan c.args.within.now) copies copied c.args.list.now begin _ _ (sym c.is_empty.ensures ∙ e)

pub returns : goal.returns
returns c = λ copied copies begin.
    ap (list_nodes copied (lay_list (plan c.args.within.now) copies (plain_stmts c.args.list.now)) begin)
    (c.first_of_range.ensures copies)
