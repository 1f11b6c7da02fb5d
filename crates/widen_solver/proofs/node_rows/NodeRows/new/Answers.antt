use Rattle.std.proofs.Common.{◌≤◌, ℕ, zero, suc, ◌∷◌, get_or, None, refl, ap, ◌∙◌, arith}
use Rattle.block_store.specs.Held.{Held}
use Rattle.widen_solver.specs.Slots.{contents, empty_count}
use Rattle.widen_solver.proofs.SlotLemmas as slots
use Rattle.widen_solver.proofs.node_rows.NodeRows.new.Goals as goal

pub invariant_of-result : goal.invariant_of-result
invariant_of-result c =
    let h = c.in_ok-blocks.blocks in let ids = c.in_ok-ids.ids.items in
    let none = λ (k : ℕ). ap (λ l. get_or (None ∷ None ∷ l) k None) c.in_ok-ids.ensures ∙ slots.nones (suc (suc c.args.nodes)) k in
    let room : empty_count (None ∷ None ∷ ids) ≤ h.spare = omega (arith, ap empty_count c.in_ok-ids.ensures, slots.none_count c.args.nodes, ap (λ (b : Held). b.spare) c.in_ok-blocks.ensures) in
    slots.take_slots h c.taken-bottom.new.blocks (None ∷ None ∷ ids) zero c.taken-bottom.result (slots.none_slots h (None ∷ None ∷ ids) none room) (omega arith) refl c.taken-bottom.ensures

pub returns-clause-rows : goal.returns-clause-rows
returns-clause-rows c = ap (contents c.taken-bottom.new.blocks) c.in_ok-ids.ensures ∙ slots.none_contents c.taken-bottom.new.blocks c.args.nodes
