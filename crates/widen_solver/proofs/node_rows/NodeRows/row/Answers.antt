use Rattle.std.proofs.Common.{◌<◌, length, ap, sym, ◌∙◌, subst, arith}
use Rattle.std.specs.Prelude.{IsSome}
use Rattle.block_store.specs.Held.{block_at}
use Rattle.widen_solver.specs.RowsHeld.{RowsHeld}
use Rattle.widen_solver.specs.Slots.{content}
use Rattle.widen_solver.proofs.SlotLemmas as slots
use Rattle.widen_solver.proofs.node_rows.NodeRows.row.Goals as goal

pub read-requires : goal.read-requires
read-requires c =
    let g = c.self.inside in
    subst (λ id. IsSome (block_at g.blocks id)) (sym c.shown.ensures) (slots.shown_live g.blocks g.bottom g.transfer g.ids.items c.args.index c.self.invariant)

pub returns : goal.returns
returns c =
    let g = c.self.inside in
    let less : c.args.index < length g.ids.items = omega (arith, subst (λ (h : RowsHeld). c.args.index < length h.rows) (sym c.self.view_is) c.requires, slots.count_is g.blocks g.ids.items) in
    rw (← c.self.view_is) (slots.seen_is g.blocks c.shown.result.now c.read.result.now c.read.ensures.value ∙ ap (content g.blocks) c.shown.ensures ∙ sym (slots.shown_is g.blocks g.bottom g.transfer g.ids.items c.args.index less))

pub shown-requires : goal.shown-requires
shown-requires c =
    let g = c.self.inside in
    omega (arith, subst (λ (h : RowsHeld). c.args.index < length h.rows) (sym c.self.view_is) c.requires, slots.count_is g.blocks g.ids.items)
