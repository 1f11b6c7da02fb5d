use Rattle.std.proofs.Common.{◌<◌, suc, length, slice_set, None, ap, sym, ◌∙◌, subst, arith}
use Rattle.widen_solver.specs.RowsHeld.{RowsHeld}
use Rattle.widen_solver.specs.Slots.{slot_content, AreSlots}
use Rattle.widen_solver.specs.NodeRows.{held_of, slots_of}
use Rattle.widen_solver.proofs.SlotLemmas as slots
use Rattle.widen_solver.proofs.node_rows.NodeRows.release.Goals as goal

pub give-requires : goal.give-requires
give-requires c = c.self.invariant.live (suc (suc c.args.index)) c.emptied-id.result c.emptied-id.ensures.value

pub invariant_of-self : goal.invariant_of-self
invariant_of-self c =
    let g = c.self.inside in
    subst (λ ids. AreSlots c.give.new.self (slots_of g.bottom g.transfer ids)) (sym c.emptied-id.ensures.ids)
    (slots.give_slots g.blocks c.give.new.self (slots_of g.bottom g.transfer g.ids.items) (suc (suc c.args.index)) c.emptied-id.result c.self.invariant c.emptied-id.ensures.value c.give.ensures)

pub returns-then-is_own : goal.returns-then-is_own
returns-then-is_own c =
    let g = c.self.inside in let h = g.blocks in let new = c.give.new.self in
    let now = slots.give_contents h new (slots_of g.bottom g.transfer g.ids.items) (suc (suc c.args.index)) c.emptied-id.result c.self.invariant c.emptied-id.ensures.value c.give.ensures in
    rw (← c.self.view_is) (
    ap (held_of new g.bottom g.transfer) c.emptied-id.ensures.ids
    ∙ slots.own_changes h new g.bottom g.transfer g.ids.items (slice_set g.ids.items c.args.index None) c.args.index None c.give.ensures.words now)

pub returns-else-is_own : goal.returns-else-is_own
returns-else-is_own c =
    let g = c.self.inside in
    let less : c.args.index < length g.ids.items = omega (arith, subst (λ (h : RowsHeld). c.args.index < length h.rows) (sym c.self.view_is) c.requires, slots.count_is g.blocks g.ids.items) in
    let empty = slots.content_at g.blocks g.ids.items c.args.index None less ∙ ap (slot_content g.blocks) (c.is_own.ensures.none c.if-is_own.false) in
    rw (← c.self.view_is) (slots.own_same (held_of g.blocks g.bottom g.transfer g.ids.items) c.args.index None empty)

pub is_own-requires : goal.is_own-requires
is_own-requires c =
    let g = c.self.inside in
    omega (arith, subst (λ (h : RowsHeld). c.args.index < length h.rows) (sym c.self.view_is) c.requires, slots.count_is g.blocks g.ids.items)

pub emptied-id-requires-clause-index : goal.emptied-id-requires-clause-index
emptied-id-requires-clause-index c =
    let g = c.self.inside in
    omega (arith, subst (λ (h : RowsHeld). c.args.index < length h.rows) (sym c.self.view_is) c.requires, slots.count_is g.blocks g.ids.items)
