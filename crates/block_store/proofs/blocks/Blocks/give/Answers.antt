use Rattle.std.proofs.Common.{◌≡◌, ◌+◌, ◌≤◌, ℕ, length, pos, slice_set, get_or, ap, sym, ◌∙◌, subst, refl, arith, length-set, get_or-set_same}
use Rattle.std.specs.Prelude.{IsSome}
use Rattle.block_store.specs.Grid.{row_at, with_row}
use Rattle.block_store.specs.RegionLends.{rewritten_row}
use Rattle.block_store.specs.Held.{Held, block_at, Gives}
use Rattle.block_store.specs.Blocks.{free_in, held_in, blocks_in, IsChain}
use Rattle.block_store.specs.declared.blocks.Blocks.TheInside.{Inside}
use Rattle.block_store.proofs.Chains.{is_live, few, chain_length, rewritten_is, rewritten_wide, has_rows_set, own_rows, given_chain, given_is, block_given}
use Rattle.block_store.proofs.blocks.Blocks.give.Goals as goal

pub row_mut-requires : goal.row_mut-requires
row_mut-requires c =
    let b = c.self.inside in let rows = b.region.rows in let id = c.id.inside.place in
    let live = is_live rows (free_in b) id (subst (λ (x : Held × ℕ). IsSome (block_at x.0 x.1)) (λ i. (sym c.self.view_is i, sym c.id.view_is i)) c.requires) in
    live.less

pub set_next-requires : goal.set_next-requires
set_next-requires c = omega (arith, c.row_mut.ensures.width, c.self.invariant.some)

pub overflow_add-self : goal.overflow_add-self
overflow_add-self c =
    let b = c.self.inside in
    record { fits = omega (arith, few b.region.rows (free_in b) c.self.invariant.free, chain_length b.region.rows b.spare b.free, c.self.invariant.limit) }

pub invariant_of-self : goal.invariant_of-self
invariant_of-self c =
    let b = c.self.inside in let g = b.region in let rows = g.rows in let inv = c.self.invariant in let id = c.id.inside.place in
    let live = is_live rows (free_in b) id (subst (λ (x : Held × ℕ). IsSome (block_at x.0 x.1)) (λ i. (sym c.self.view_is i, sym c.id.view_is i)) c.requires) in
    let ws = c.set_next.new.block in let row = rewritten_row g id ws in
    let old_wide = inv.rows.widths id live.less in
    let ws_is : ws ≡ slice_set (row_at g id) 0 (pos b.free) = c.set_next.ensures ∙ ap (λ r. slice_set r 0 (pos b.free)) c.row_mut.ensures.value in
    let ws_wide : length ws ≡ g.width = ap length ws_is ∙ length-set (row_at g id) 0 (pos b.free) ∙ old_wide in
    let some : 1 ≤ length (row_at g id) = omega (arith, old_wide, inv.some) in
    let word : get_or row 0 (pos 0) ≡ pos b.free = ap (λ r. get_or r 0 (pos 0)) (rewritten_is g id ws ws_wide ∙ ws_is) ∙ get_or-set_same (row_at g id) 0 (pos b.free) (pos 0) (omega (arith, some)) in
    let count = length-set rows id row in
    record {
      some = inv.some;
      rows = own_rows g.width (length rows) (with_row g id row) (has_rows_set g.width (length rows) g id row inv.rows (rewritten_wide g id ws old_wide));
      limit = omega (arith, inv.limit, count);
      first = omega (arith, live.less, count);
      free = subst (λ free. IsChain (slice_set rows id row) free) (sym (given_chain rows row b.spare b.free id live word)) (given_is rows row (free_in b) b.free id live word inv.first inv.free);
    }

pub returns : goal.returns
returns c =
    let b = c.self.inside in let g = b.region in let rows = g.rows in let inv = c.self.invariant in let id = c.id.inside.place in
    let live = is_live rows (free_in b) id (subst (λ (x : Held × ℕ). IsSome (block_at x.0 x.1)) (λ i. (sym c.self.view_is i, sym c.id.view_is i)) c.requires) in
    let ws = c.set_next.new.block in let row = rewritten_row g id ws in
    let old_wide = inv.rows.widths id live.less in
    let ws_is : ws ≡ slice_set (row_at g id) 0 (pos b.free) = c.set_next.ensures ∙ ap (λ r. slice_set r 0 (pos b.free)) c.row_mut.ensures.value in
    let ws_wide : length ws ≡ g.width = ap length ws_is ∙ length-set (row_at g id) 0 (pos b.free) ∙ old_wide in
    let some : 1 ≤ length (row_at g id) = omega (arith, old_wide, inv.some) in
    let word : get_or row 0 (pos 0) ≡ pos b.free = ap (λ r. get_or r 0 (pos 0)) (rewritten_is g id ws ws_wide ∙ ws_is) ∙ get_or-set_same (row_at g id) 0 (pos b.free) (pos 0) (omega (arith, some)) in
    let new : Inside = record { region = with_row g id row; free = id; spare = b.spare + 1 } in
    subst (λ (x : Held × ℕ). Gives x.0 (held_in new) x.1) (λ i. (c.self.view_is i, c.id.view_is i)) (record {
      spare = refl;
      words = refl;
      blocks = ap (λ free. blocks_in (slice_set rows id row) free) (given_chain rows row b.spare b.free id live word) ∙ block_given rows row (free_in b) id live;
    })
