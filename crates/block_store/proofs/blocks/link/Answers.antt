use Rattle.std.proofs.Common.{◌≡◌, ◌+◌, ◌≤◌, ◌<◌, length, pos, slice_set, get_or, ap, sym, ◌∙◌, arith, length-set, get_or-set_same}
use Rattle.block_store.specs.Grid.{row_at}
use Rattle.block_store.specs.RegionLends.{rewritten_row}
use Rattle.block_store.proofs.Chains.{rewritten_is, rewritten_wide, has_rows_set, linked_more}
use Rattle.block_store.proofs.blocks.link.Goals as goal

pub loop-place-init : goal.loop-place-init
loop-place-init c = (c.requires.rows, λ id less. absurd (omega arith))

pub row_mut-requires : goal.row_mut-requires
row_mut-requires c = omega (arith, c.loop-place-test.true, c.loop-place.invariant.0.count_is)

pub set_next-requires : goal.set_next-requires
set_next-requires c = omega (arith, c.row_mut.ensures.width, c.loop-place.invariant.0.width_is, c.requires.some)

pub loop-place-preserved : goal.loop-place-preserved
loop-place-preserved c =
    let g = c.loop-place.region in let at = c.loop-place.place in let has = c.loop-place.invariant.0 in let ws = c.set_next.new.block in
    let less : at < length g.rows = omega (arith, c.loop-place-test.true, has.count_is) in
    let old_wide : length (row_at g at) ≡ g.width = has.widths at c.loop-place-test.true ∙ sym has.width_is in
    let ws_is : ws ≡ slice_set (row_at g at) 0 (pos (at + 1)) = c.set_next.ensures ∙ ap (λ r. slice_set r 0 (pos (at + 1))) c.row_mut.ensures.value in
    let ws_wide : length ws ≡ g.width = ap length ws_is ∙ length-set (row_at g at) 0 (pos (at + 1)) ∙ old_wide in
    let row_is = rewritten_is g at ws ws_wide ∙ ws_is in
    let some : 1 ≤ length (row_at g at) = omega (arith, old_wide, has.width_is, c.requires.some) in
    let word : get_or (rewritten_row g at ws) 0 (pos 0) ≡ pos (at + 1) = ap (λ r. get_or r 0 (pos 0)) row_is ∙ get_or-set_same (row_at g at) 0 (pos (at + 1)) (pos 0) (omega (arith, some)) in (
      has_rows_set c.args.words c.args.count g at (rewritten_row g at ws) has (rewritten_wide g at ws old_wide ∙ has.width_is),
      linked_more g.rows at (rewritten_row g at ws) less word c.loop-place.invariant.1,
    )
