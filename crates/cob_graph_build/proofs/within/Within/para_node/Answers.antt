use Rattle.std.proofs.Common.{◌≡◌, ◌-◌, ◌+◌, suc, ap, sym, ◌∙◌, arith}
use Rattle.cob_runs.specs.Steps.{body_at}
use Rattle.cob_graph.specs.Laid.{list_size}
use Rattle.cob_graph_build.specs.Tables.{lay_list}
use Rattle.cob_graph_build.specs.Growing.{plan, copies_of}
use Rattle.cob_graph_build.proofs.PlaceLemmas.{para_later}
use Rattle.cob_graph_build.proofs.within.Within.para_node.Goals as goal

pub loop-from-preserved : goal.loop-from-preserved
loop-from-preserved c =
    let w = c.args.self.now in
    let l = c.loop-from in
    let fewer : l.skip ≡ suc (l.skip - 1) = omega arith in
    let behind : c.in_ok-at.at ≡ l.at + list_size (lay_list (plan w) (copies_of w) (body_at (plan w) l.from)) =
    c.in_ok-at.ensures ∙ ap (λ n. l.at + n) (c.in_ok-list_nodes.ensures
    ∙ ap (λ ss. list_size (lay_list (plan w) (copies_of w) ss)) c.body_at.ensures) in
    sym (para_later (plan w) (copies_of w) l.skip (l.skip - 1) l.from w.end l.at c.in_ok-at.at w.next
    c.loop-from-test.true fewer behind) ∙ l.invariant
