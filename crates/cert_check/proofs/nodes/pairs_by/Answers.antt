use Rattle.std.proofs.Common.{◌≡◌, ◌+◌, length, ap, ◌∙◌, arith}
use Rattle.std.specs.List.{flat_map, range_with_len}
use Rattle.cert_check.specs.OpenPairs.{opens_by}
use Rattle.cert_check.proofs.Noting.{pairs_next}
use Rattle.cert_check.proofs.nodes.pairs_by.Goals as goal

pub loop-k-preserved : goal.loop-k-preserved
loop-k-preserved g c = λ clears tell.
    let count = c.in_ok-noted.ensures.count in
    let test = c.loop-k-test.true in
    pairs_next c.args.graph.now clears c.loop-k.k (c.loop-k.k + 1) c.loop-k.pairs.items c.push_left_open.new.pairs.items
    c.in_ok-noted.noted.items c.index.result.now c.index.result.now (c.in_ok-noted.ensures.cleared clears tell) (omega arith)
    (omega (arith, count, test)) c.index.ensures (c.loop-k.invariant clears tell) c.in_ok-push_left_open.ensures

pub returns : goal.returns
returns g c = λ clears tell.
    let whole : c.loop-k.k ≡ c.args.statements = omega (arith, c.loop-k-test.false) in
    c.loop-k.invariant clears tell ∙ ap (λ n. flat_map (opens_by c.args.graph.now clears) (range_with_len 1 n)) whole
