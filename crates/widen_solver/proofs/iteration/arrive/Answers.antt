use Rattle.std.proofs.Common.{◌<◌, ◌-◌, ◌∙◌, length, Some, ap, sym, subst, arith, refl, length-set}
use Rattle.std.specs.Prelude.{IsSome}
use Rattle.block_store.specs.BlocksLends.{words_at}
use Rattle.dom_laws.specs.Lattice.{IsElement}
use Rattle.widen_solver.specs.RowsHeld.{RowsHeld, row_shown}
use Rattle.widen_solver.proofs.ShownRows.{shown_count, shown_at, own_is_some, some_of}
use Rattle.widen_solver.proofs.OneEdge.{arrives_at}
use Rattle.widen_solver.proofs.iteration.arrive.Goals as goal

pub reach-requires : goal.reach-requires
reach-requires g c = omega (arith, c.requires.node.first, c.requires.node.last, c.requires.rows.nodes, shown_count c.args.rows.now)

pub row_beside_transfer-row-requires-clause-index : goal.row_beside_transfer-row-requires-clause-index
row_beside_transfer-row-requires-clause-index g c =
    let old = c.args.rows.now in
    omega (arith, c.requires.node.first, c.requires.node.last, c.requires.rows.nodes, shown_count old, ap (λ (h : RowsHeld). length h.rows) c.reach.ensures, length-set old.rows (c.args.node - 1) (Some (row_shown old (c.args.node - 1))))

pub row_beside_transfer-row-requires-clause-own : goal.row_beside_transfer-row-requires-clause-own
row_beside_transfer-row-requires-clause-own g c =
    let old = c.args.rows.now in
    let within : c.args.node - 1 < length old.rows = omega (arith, c.requires.node.first, c.requires.node.last, c.requires.rows.nodes, shown_count old) in
    some_of _ (row_shown old (c.args.node - 1)) (own_is_some old c.reach.new.self (c.args.node - 1) (row_shown old (c.args.node - 1)) c.reach.ensures within)

pub row_beside_transfer-row-requires-clause-transfer : goal.row_beside_transfer-row-requires-clause-transfer
row_beside_transfer-row-requires-clause-transfer g c = subst (λ b. IsSome b) (sym (ap (λ (h : RowsHeld). h.transfer) c.reach.ensures)) c.requires.ready.transfer

pub take_in-requires-clause-row : goal.take_in-requires-clause-row
take_in-requires-clause-row g c =
    let system = c.args.system.now in let l = g.S.Domain.lattice system in let old = c.args.rows.now in
    let within : c.args.node - 1 < length old.rows = omega (arith, c.requires.node.first, c.requires.node.last, c.requires.rows.nodes, shown_count old) in
    let there = own_is_some old c.reach.new.self (c.args.node - 1) (row_shown old (c.args.node - 1)) c.reach.ensures within in
    let row = ap words_at (sym c.row_beside_transfer-row.ensures.value ∙ there) ∙ shown_at old c.args.node c.args.node refl c.requires.node.first (omega (arith, c.requires.node.last, c.requires.rows.nodes, shown_count old)) in
    subst (λ r. IsElement l r) (sym row) (c.requires.rows.elements c.args.node c.requires.node)

pub take_in-requires-clause-more : goal.take_in-requires-clause-more
take_in-requires-clause-more g c =
    let l = g.S.Domain.lattice c.args.system.now in
    let more = ap words_at (sym c.row_beside_transfer-row.ensures.transfer) ∙ ap (λ (h : RowsHeld). words_at h.transfer) c.reach.ensures in
    subst (λ r. IsElement l r) (sym more) c.requires.more

pub returns : goal.returns
returns g c =
    let system = c.args.system.now in
    arrives_at (g.S.Domain.lattice system) (g.S.System.flow system) (g.met.S.Domain.ordered system) c.args.node c.requires.node c.args.rows.now c.reach.new.self c.requires.rows c.requires.ready c.requires.more c.reach.ensures
    c.row_beside_transfer-row.result.0.now c.row_beside_transfer-row.result.1.now c.take_in.new.row c.take_in.result c.row_beside_transfer-row.ensures.value c.row_beside_transfer-row.ensures.transfer c.take_in.ensures
