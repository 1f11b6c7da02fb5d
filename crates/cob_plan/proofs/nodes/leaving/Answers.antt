use Rattle.std.proofs.Common.{◌≡◌, arith}
use Rattle.std.proofs.lemmas.List.Elements.{All-more}
use Rattle.cob_plan.proofs.NodeList.{front_goes_on, front_stops, front_ends}
use Rattle.cob_plan.proofs.nodes.leaving.Goals as goal

pub loop-count-preserved : goal.loop-count-preserved
loop-count-preserved c =
    let l = c.loop-count in
    let goes_on = front_goes_on c.args.number c.args.edges.now l.count _ c.loop-count-test.true c.if-edges-count.false in (
      All-more (λ e. e.from ≡ c.args.number) c.args.edges.now l.count _ (omega arith) l.invariant.0
          c.if-edges-count.false,
      omega (arith, l.invariant.1, goes_on),
    )

pub returns-then-edges-count-clause-all : goal.returns-then-edges-count-clause-all
returns-then-edges-count-clause-all c =
    let l = c.loop-count in
    let stops = front_stops c.args.number c.args.edges.now l.count _ c.loop-count-test.true c.if-edges-count.true in
    omega (arith, l.invariant.1, stops)

pub returns-clause-all : goal.returns-clause-all
returns-clause-all c =
    let l = c.loop-count in
    let ends = front_ends c.args.number c.args.edges.now l.count (omega (arith, c.loop-count-test.false)) in
    omega (arith, l.invariant.1, ends, l.auto.count-end, c.loop-count-test.false)
