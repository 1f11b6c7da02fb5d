use Rattle.std.proofs.Common.{◌≡◌, zero, length, refl, ap, sym, ◌∙◌}
use Rattle.std.specs.List.{refill}
use Rattle.block_store.specs.BlocksLends.{with_block}
use Rattle.widen_solver.specs.RowsHeld.{RowsHeld, with_bottom}
use Rattle.widen_solver.specs.Slots.{content}
use Rattle.widen_solver.specs.NodeRows.{held_of, slots_of}
use Rattle.widen_solver.proofs.SlotLemmas as slots
use Rattle.widen_solver.proofs.node_rows.NodeRows.set_bottom.Goals as goal

pub write-requires : goal.write-requires
write-requires g c = c.self.invariant.live zero c.self.inside.bottom refl

pub invariant_of-self : goal.invariant_of-self
invariant_of-self g c =
    let r = c.self.inside in
    (slots.writes r.blocks (slots_of r.bottom r.transfer r.ids.items) zero r.bottom c.bottom.new.a c.self.invariant refl).slots_are

pub returns : goal.returns
returns g c =
    let r = c.self.inside in
    let wide : length c.bottom.new.a ≡ r.blocks.words = ap length c.bottom.ensures ∙ (g.met.D.Domain.ordered c.args.domain.now).least_element.width ∙ sym (ap (λ (h : RowsHeld). h.words) c.self.view_is ∙ c.requires) in
    rw (← c.self.view_is) (
    slots.bottom_changes r.blocks (with_block r.blocks r.bottom c.bottom.new.a) r.bottom r.transfer r.ids.items (refill r.blocks.words (content r.blocks r.bottom) c.bottom.new.a) refl
    (slots.writes r.blocks (slots_of r.bottom r.transfer r.ids.items) zero r.bottom c.bottom.new.a c.self.invariant refl).contents_are
    ∙ ap (with_bottom (held_of r.blocks r.bottom r.transfer r.ids.items)) (slots.refill_whole r.blocks.words (content r.blocks r.bottom) c.bottom.new.a wide ∙ c.bottom.ensures))
