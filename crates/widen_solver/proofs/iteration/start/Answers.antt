use Rattle.std.proofs.Common.{◌<◌, ◌∙◌, length, Some, ap, arith, length-set}
use Rattle.widen_solver.specs.RowsHeld.{RowsHeld, row_shown}
use Rattle.widen_solver.proofs.Starting.{cleared_none, cleared_more, started}
use Rattle.widen_solver.proofs.ShownRows.{own_is_some, some_of}
use Rattle.widen_solver.proofs.iteration.start.Goals as goal

pub loop-index-init : goal.loop-index-init
loop-index-init g c =
    let system = c.args.system.now in
    cleared_none c.args.rows.now c.set_bottom.new.self (g.S.Domain.lattice system).least (g.S.System.flow system).nodes c.set_bottom.ensures c.requires.nodes

pub release-requires : goal.release-requires
release-requires g c = omega (arith, c.loop-index-test.true, c.loop-index.invariant.count_is, c.nodes-index-end.ensures)

pub loop-index-preserved : goal.loop-index-preserved
loop-index-preserved g c =
    let system = c.args.system.now in
    cleared_more c.args.rows.now c.loop-index.rows c.release.new.self (g.S.Domain.lattice system).least (g.S.System.flow system).nodes c.loop-index.index (omega (arith, c.loop-index-test.true, c.nodes-index-end.ensures)) c.release.ensures c.loop-index.invariant

pub reach-requires : goal.reach-requires
reach-requires g c = omega (arith, c.loop-index.invariant.count_is, (g.met.S.System.flows c.args.system.now).has_node)

pub row_mut-requires-clause-index : goal.row_mut-requires-clause-index
row_mut-requires-clause-index g c =
    let old = c.loop-index.rows in
    let has : 0 < length old.rows = omega (arith, c.loop-index.invariant.count_is, (g.met.S.System.flows c.args.system.now).has_node) in
    omega (arith, has, ap (λ (h : RowsHeld). length h.rows) c.reach.ensures, length-set old.rows 0 (Some (row_shown old 0)))

pub row_mut-requires-clause-own : goal.row_mut-requires-clause-own
row_mut-requires-clause-own g c =
    let old = c.loop-index.rows in
    let has : 0 < length old.rows = omega (arith, c.loop-index.invariant.count_is, (g.met.S.System.flows c.args.system.now).has_node) in
    some_of _ (row_shown old 0) (own_is_some old c.reach.new.self 0 (row_shown old 0) c.reach.ensures has)

pub entry-requires : goal.entry-requires
entry-requires g c = c.row_mut.ensures.words ∙ ap (λ (h : RowsHeld). h.words) c.reach.ensures ∙ c.loop-index.invariant.words ∙ c.requires.words

pub returns-clause-under_way : goal.returns-clause-under_way
returns-clause-under_way g c =
    let system = c.args.system.now in let l = g.S.Domain.lattice system in let f = g.S.System.flow system in
    (started l f (g.met.S.Domain.ordered system) (g.met.S.System.flows system) c.args.rows.now c.loop-index.rows c.reach.new.self c.loop-index.index c.entry.new.out c.loop-index.invariant (omega (arith, c.loop-index-test.false, c.nodes-index-end.ensures)) c.reach.ensures c.entry.ensures c.requires.words).under_way

pub returns-clause-words : goal.returns-clause-words
returns-clause-words g c = ap (λ (h : RowsHeld). h.words) c.reach.ensures ∙ c.loop-index.invariant.words

pub returns-clause-transfer : goal.returns-clause-transfer
returns-clause-transfer g c = ap (λ (h : RowsHeld). h.transfer) c.reach.ensures ∙ c.loop-index.invariant.transfer
