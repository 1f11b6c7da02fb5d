use Rattle.std.proofs.Common.{zero, suc, None, ap, sym, ◌∙◌, subst}
use Rattle.widen_solver.specs.Slots.{AreSlots}
use Rattle.widen_solver.specs.NodeRows.{held_of, slots_of}
use Rattle.widen_solver.proofs.SlotLemmas as slots
use Rattle.widen_solver.proofs.node_rows.NodeRows.give_transfer.Goals as goal

pub give-requires : goal.give-requires
give-requires c = c.self.invariant.live (suc zero) c.in-Some.id (sym c.in-Some.ensures.value)

pub invariant_of-self : goal.invariant_of-self
invariant_of-self c =
    let g = c.self.inside in
    subst (λ transfer. AreSlots c.give.new.self (slots_of g.bottom transfer g.ids.items)) (sym c.replace.ensures.after)
    (slots.give_slots g.blocks c.give.new.self (slots_of g.bottom g.transfer g.ids.items) (suc zero) c.in-Some.id c.self.invariant (sym c.in-Some.ensures.value) c.give.ensures)

pub returns-in-Some : goal.returns-in-Some
returns-in-Some c =
    let g = c.self.inside in let new = c.give.new.self in
    rw (← c.self.view_is) (
    ap (λ transfer. held_of new g.bottom transfer g.ids.items) c.replace.ensures.after
    ∙ slots.transfer_changes g.blocks new g.bottom g.transfer None g.ids.items None c.give.ensures.words
    (slots.give_contents g.blocks new (slots_of g.bottom g.transfer g.ids.items) (suc zero) c.in-Some.id c.self.invariant (sym c.in-Some.ensures.value) c.give.ensures))
