use Rattle.std.proofs.Common.{◌≡◌, replicate, None, ap, ◌∙◌, arith}
use Rattle.widen_solver.proofs.Lists.{more_of}
use Rattle.widen_solver.proofs.node_rows.no_ids.Goals as goal

pub loop-preserved : goal.loop-preserved
loop-preserved c = let l = c.loop in c.in_ok-push.ensures.items ∙ more_of l.ids.items l.counter None l.invariant

pub returns : goal.returns
returns c =
    let l = c.loop in
    let whole : l.counter ≡ c.args.count = omega arith in
    l.invariant ∙ ap (λ n. replicate n None) whole
