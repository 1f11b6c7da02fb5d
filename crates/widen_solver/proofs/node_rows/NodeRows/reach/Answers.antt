use Rattle.std.proofs.Common.{◌≡◌, ◌<◌, zero, suc, length, Some, refl, ap, sym, ◌∙◌, subst, arith}
use Rattle.std.specs.Prelude.{IsSome}
use Rattle.block_store.specs.Held.{block_at}
use Rattle.block_store.specs.BlocksLends.{with_block}
use Rattle.widen_solver.specs.RowsHeld.{RowsHeld}
use Rattle.widen_solver.specs.Slots.{AreSlots}
use Rattle.widen_solver.specs.NodeRows.{held_of, slots_of}
use Rattle.widen_solver.proofs.SlotLemmas as slots
use Rattle.widen_solver.proofs.node_rows.NodeRows.reach.Goals as goal

pub returns-then-is_own : goal.returns-then-is_own
returns-then-is_own c =
    let g = c.self.inside in
    let less : c.args.index < length g.ids.items = omega (arith, subst (λ (h : RowsHeld). c.args.index < length h.rows) (sym c.self.view_is) c.requires, slots.count_is g.blocks g.ids.items) in
    rw (← c.self.view_is) (slots.own_kept (held_of g.blocks g.bottom g.transfer g.ids.items) c.args.index (slots.own_there g.blocks g.ids.items c.args.index less (c.is_own.ensures.own c.if-is_own.true)))

pub taken-id-requires : goal.taken-id-requires
taken-id-requires c =
    let g = c.self.inside in
    let less : c.args.index < length g.ids.items = omega (arith, subst (λ (h : RowsHeld). c.args.index < length h.rows) (sym c.self.view_is) c.requires, slots.count_is g.blocks g.ids.items) in
    slots.room_left g.blocks (slots_of g.bottom g.transfer g.ids.items) (suc (suc c.args.index)) c.self.invariant (omega (arith, less)) (c.is_own.ensures.none c.if-is_own.false)

pub pair-row-requires-clause-src : goal.pair-row-requires-clause-src
pair-row-requires-clause-src c =
    let g = c.self.inside in
    subst (λ b. IsSome b) (sym (slots.bottom_stays g.blocks c.taken-id.new.blocks g.bottom g.transfer g.ids.items c.taken-id.result c.self.invariant c.taken-id.ensures)) (c.self.invariant.live zero g.bottom refl)

pub pair-row-requires-clause-differ : goal.pair-row-requires-clause-differ
pair-row-requires-clause-differ c =
    let g = c.self.inside in
    slots.fresh_not_bottom g.blocks g.bottom g.transfer g.ids.items c.taken-id.result c.self.invariant c.taken-id.ensures.fresh

pub invariant_of-self : goal.invariant_of-self
invariant_of-self c =
    let g = c.self.inside in let mid = c.taken-id.new.blocks in let ws = c.copy_from_slice.new.self in
    let less : c.args.index < length g.ids.items = omega (arith, subst (λ (h : RowsHeld). c.args.index < length h.rows) (sym c.self.view_is) c.requires, slots.count_is g.blocks g.ids.items) in
    let copied : block_at mid g.bottom ≡ Some ws = c.pair-row.ensures.src ∙ ap Some (sym c.copy_from_slice.ensures.after) in
    let wide : length ws ≡ mid.words = ap length c.copy_from_slice.ensures.after ∙ c.pair-row.ensures.words_src in
    subst (λ ids. AreSlots (with_block mid c.taken-id.result ws) (slots_of g.bottom g.transfer ids)) (sym c.put.ensures)
    (slots.reaches g.blocks mid g.bottom g.transfer g.ids.items c.args.index c.taken-id.result ws c.self.invariant less (c.is_own.ensures.none c.if-is_own.false) c.taken-id.ensures copied wide).slots_are

pub returns : goal.returns
returns c =
    let g = c.self.inside in let mid = c.taken-id.new.blocks in let ws = c.copy_from_slice.new.self in
    let less : c.args.index < length g.ids.items = omega (arith, subst (λ (h : RowsHeld). c.args.index < length h.rows) (sym c.self.view_is) c.requires, slots.count_is g.blocks g.ids.items) in
    let copied : block_at mid g.bottom ≡ Some ws = c.pair-row.ensures.src ∙ ap Some (sym c.copy_from_slice.ensures.after) in
    let wide : length ws ≡ mid.words = ap length c.copy_from_slice.ensures.after ∙ c.pair-row.ensures.words_src in
    rw (← c.self.view_is) (
    ap (held_of (with_block mid c.taken-id.result ws) g.bottom g.transfer) c.put.ensures
    ∙ (slots.reaches g.blocks mid g.bottom g.transfer g.ids.items c.args.index c.taken-id.result ws c.self.invariant less (c.is_own.ensures.none c.if-is_own.false) c.taken-id.ensures copied wide).held)

pub is_own-requires : goal.is_own-requires
is_own-requires c =
    let g = c.self.inside in
    omega (arith, subst (λ (h : RowsHeld). c.args.index < length h.rows) (sym c.self.view_is) c.requires, slots.count_is g.blocks g.ids.items)

pub put-requires : goal.put-requires
put-requires c =
    let g = c.self.inside in
    omega (arith, subst (λ (h : RowsHeld). c.args.index < length h.rows) (sym c.self.view_is) c.requires, slots.count_is g.blocks g.ids.items)
