use Rattle.std.proofs.Common.{◌≡◌, zero, suc, Some, None, sym, subst, arith}
use Rattle.widen_solver.specs.RowsHeld.{RowsHeld}
use Rattle.widen_solver.specs.Slots.{content}
use Rattle.widen_solver.specs.NodeRows.{slots_of}
use Rattle.widen_solver.proofs.SlotLemmas as slots
use Rattle.widen_solver.proofs.node_rows.NodeRows.take_transfer.Goals as goal

pub taken-id-requires : goal.taken-id-requires
taken-id-requires c =
    let g = c.self.inside in
    let empty = slots.transfer_none g.blocks g.transfer (subst (λ (h : RowsHeld). h.transfer ≡ None) (sym c.self.view_is) c.requires) in
    slots.room_left g.blocks (slots_of g.bottom g.transfer g.ids.items) (suc zero) c.self.invariant (omega arith) empty

pub invariant_of-self : goal.invariant_of-self
invariant_of-self c =
    let g = c.self.inside in
    let empty = slots.transfer_none g.blocks g.transfer (subst (λ (h : RowsHeld). h.transfer ≡ None) (sym c.self.view_is) c.requires) in
    slots.take_slots g.blocks c.taken-id.new.blocks (slots_of g.bottom g.transfer g.ids.items) (suc zero) c.taken-id.result c.self.invariant (omega arith) empty c.taken-id.ensures

pub returns-clause-kept : goal.returns-clause-kept
returns-clause-kept c =
    let g = c.self.inside in let new = c.taken-id.new.blocks in let id = c.taken-id.result in
    rw (← c.self.view_is) (slots.transfer_changes g.blocks new g.bottom g.transfer (Some id) g.ids.items (Some (content new id)) c.taken-id.ensures.words
    (slots.take_contents g.blocks new (slots_of g.bottom g.transfer g.ids.items) (suc zero) id c.self.invariant (omega arith) c.taken-id.ensures))
