use Rattle.std.proofs.Common.{◌+◌, ◌≡◌, length, subst, arith}
use Rattle.cert_check.specs.Clearing.{AreClearedTo}
use Rattle.cert_check.proofs.Noting.{noted_next}
use Rattle.cert_check.proofs.nodes.note_nodes.Goals as goal

pub loop-k-preserved : goal.loop-k-preserved
loop-k-preserved g c = λ clears tell.
    noted_next c.args.graph.now clears c.loop-k.k (c.loop-k.k + 1) c.statement_at.result c.clears_all-cleared.result c.loop-k.noted
    c.note.new.noted (c.loop-k.invariant clears tell) (omega arith) c.statement_at.ensures (c.clears_all-cleared.ensures clears tell) c.note.ensures

pub returns : goal.returns
returns g c = λ clears tell.
    let whole : c.loop-k.k ≡ length c.args.graph.now.nodes = omega (arith, c.loop-k-test.false, c.nodes-k-end.ensures, c.requires.nodes) in
    subst (λ n. AreClearedTo c.args.graph.now clears n c.loop-k.noted) whole (c.loop-k.invariant clears tell)
