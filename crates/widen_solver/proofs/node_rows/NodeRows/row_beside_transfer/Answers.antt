use Rattle.std.proofs.Common.{◌≡◌, ◌<◌, zero, suc, length, get_or, Some, None, refl, ap, sym, ◌∙◌, subst, arith}
use Rattle.std.specs.Prelude.{IsSome}
use Rattle.std.specs.List.{refill}
use Rattle.block_store.specs.BlocksLends.{words_at, with_block}
use Rattle.widen_solver.specs.RowsHeld.{RowsHeld, with_own}
use Rattle.widen_solver.specs.Slots.{content, slot_content, contents}
use Rattle.widen_solver.specs.NodeRows.{held_of, slots_of}
use Rattle.widen_solver.proofs.SlotLemmas as slots
use Rattle.widen_solver.proofs.node_rows.NodeRows.row_beside_transfer.Goals as goal

pub own-requires-clause-index : goal.own-requires-clause-index
own-requires-clause-index c =
    let g = c.self.inside in
    let less : c.args.index < length g.ids.items = omega (arith, subst (λ (h : RowsHeld). c.args.index < length h.rows) (sym c.self.view_is) c.requires.index, slots.count_is g.blocks g.ids.items) in
    less

pub own-requires-clause-own : goal.own-requires-clause-own
own-requires-clause-own c =
    let g = c.self.inside in
    let less : c.args.index < length g.ids.items = omega (arith, subst (λ (h : RowsHeld). c.args.index < length h.rows) (sym c.self.view_is) c.requires.index, slots.count_is g.blocks g.ids.items) in
    slots.own_some g.blocks g.ids.items c.args.index less (subst (λ (h : RowsHeld). IsSome (get_or h.rows c.args.index None)) (sym c.self.view_is) c.requires.own)

pub id_in-requires : goal.id_in-requires
id_in-requires c =
    let g = c.self.inside in
    slots.transfer_some g.blocks g.transfer (subst (λ (h : RowsHeld). IsSome h.transfer) (sym c.self.view_is) c.requires.transfer)

pub pair-requires-clause-dst : goal.pair-requires-clause-dst
pair-requires-clause-dst c = c.self.invariant.live (suc (suc c.args.index)) c.own.result.now c.own.ensures

pub pair-requires-clause-src : goal.pair-requires-clause-src
pair-requires-clause-src c = c.self.invariant.live (suc zero) c.id_in.result.now c.id_in.ensures

pub pair-requires-clause-differ : goal.pair-requires-clause-differ
pair-requires-clause-differ c =
    let g = c.self.inside in
    slots.own_not_transfer g.blocks g.bottom g.transfer g.ids.items c.args.index c.own.result.now c.id_in.result.now c.self.invariant c.own.ensures c.id_in.ensures

pub returns : goal.returns
returns c =
    let g = c.self.inside in let id = c.own.result.now in
    let less : c.args.index < length g.ids.items = omega (arith, subst (λ (h : RowsHeld). c.args.index < length h.rows) (sym c.self.view_is) c.requires.index, slots.count_is g.blocks g.ids.items) in
    let there : get_or (contents g.blocks g.ids.items) c.args.index None ≡ Some (content g.blocks id) = slots.content_at g.blocks g.ids.items c.args.index None less ∙ ap (slot_content g.blocks) c.own.ensures in
    let moving : slot_content g.blocks g.transfer ≡ Some (content g.blocks c.id_in.result.now) = ap (slot_content g.blocks) c.id_in.ensures in
    rw (← c.self.view_is) (
      (
        refl,
        λ ws.
            slots.own_changes g.blocks (with_block g.blocks id ws) g.bottom g.transfer g.ids.items g.ids.items c.args.index (Some (refill g.blocks.words (content g.blocks id) ws)) refl
            (slots.writes g.blocks (slots_of g.bottom g.transfer g.ids.items) (suc (suc c.args.index)) id ws c.self.invariant c.own.ensures).contents_are
            ∙ ap (λ o. with_own (held_of g.blocks g.bottom g.transfer g.ids.items) c.args.index (Some (refill g.blocks.words (words_at o) ws))) (sym there),
      ),
      record {
        writes_back = tt;
        value = there ∙ ap Some (sym (slots.seen_is g.blocks id c.pair.result.0.now c.pair.ensures.dst));
        transfer = moving ∙ ap Some (sym (slots.seen_is g.blocks c.id_in.result.now c.pair.result.1.now c.pair.ensures.src));
        words = c.pair.ensures.words;
      },
    )

pub invariant_of-self-lent : goal.invariant_of-self-lent
invariant_of-self-lent c = λ ws.
    let g = c.self.inside in
    (slots.writes g.blocks (slots_of g.bottom g.transfer g.ids.items) (suc (suc c.args.index)) c.own.result.now ws c.self.invariant c.own.ensures).slots_are
