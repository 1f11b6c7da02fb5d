use Rattle.std.proofs.Common.{◌+◌, ◌-◌, ◌∙◌, ap, min}
use Rattle.cob_program.specs.ActView.{plain_program}
use Rattle.cob_runs.specs.Steps.{body_at}
use Rattle.cob_graph.specs.Limits.{most_told}
use Rattle.cob_graph_build.specs.Sizes.{stmts_size, range_size}
use Rattle.cob_graph_build.specs.Tables.{size_in}
use Rattle.cob_graph_build.proofs.SizeLoops.{summed, range_size_step}
use Rattle.cob_graph_build.proofs.counting.range_size.Goals as goal

pub loop-place-preserved : goal.loop-place-preserved
loop-place-preserved c =
    let p = plain_program c.args.program.now in
    let g = size_in c.args.table.now in
    let place = c.loop-place.place in
    let end = c.args.end in
    summed most_told _ _ _ (stmts_size g (body_at p place)) (range_size g p place (end - place))
    (range_size g p (place + 1) (end - (place + 1))) _ c.plus-sum.ensures
    (c.stmts_size.ensures ∙ ap (λ ss. min (stmts_size g ss) most_told) c.body_at.ensures)
    (range_size_step g p place end c.loop-place-test.true) c.loop-place.invariant
