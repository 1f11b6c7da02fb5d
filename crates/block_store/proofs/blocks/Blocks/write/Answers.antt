use Rattle.std.proofs.Common.{◌≡◌, ℕ, List, ℤ, length, slice_set, get_or, sym, ap, ◌∙◌, subst, refl, arith, length-set}
use Rattle.std.specs.Prelude.{IsSome, Some, None}
use Rattle.std.specs.List.{refill}
use Rattle.block_store.specs.Grid.{with_row}
use Rattle.block_store.specs.RegionLends.{rewritten_row}
use Rattle.block_store.specs.Held.{Held, block_at}
use Rattle.block_store.specs.Chain.{chain}
use Rattle.block_store.specs.Blocks.{free_in, held_in, blocks_in, IsChain}
use Rattle.block_store.specs.BlocksLends.{with_block, words_at}
use Rattle.block_store.proofs.Chains.{is_live, rewritten_wide, has_rows_set, own_rows, chain_same, chain_is, block_written}
use Rattle.block_store.proofs.blocks.Blocks.write.Goals as goal

pub row_mut-requires : goal.row_mut-requires
row_mut-requires c =
    let b = c.self.inside in let rows = b.region.rows in let id = c.id.inside.place in
    let live = is_live rows (free_in b) id (subst (λ (x : Held × ℕ). IsSome (block_at x.0 x.1)) (λ i. (sym c.self.view_is i, sym c.id.view_is i)) c.requires) in
    live.less

pub invariant_of-self-lent : goal.invariant_of-self-lent
invariant_of-self-lent c = λ ws.
    let b = c.self.inside in let g = b.region in let rows = g.rows in let inv = c.self.invariant in let id = c.id.inside.place in
    let live = is_live rows (free_in b) id (subst (λ (x : Held × ℕ). IsSome (block_at x.0 x.1)) (λ i. (sym c.self.view_is i, sym c.id.view_is i)) c.requires) in
    let row = rewritten_row g id ws in
    let count = length-set rows id row in
    record {
      some = inv.some;
      rows = own_rows g.width (length rows) (with_row g id row) (has_rows_set g.width (length rows) g id row inv.rows (rewritten_wide g id ws (inv.rows.widths id live.less)));
      limit = omega (arith, inv.limit, count);
      first = omega (arith, inv.first, count);
      free = subst (λ free. IsChain (slice_set rows id row) free) (sym (chain_same rows row b.spare b.free id live.used)) (chain_is rows row id (free_in b) live.used inv.free);
    }

pub returns : goal.returns
returns c =
    let b = c.self.inside in let g = b.region in let rows = g.rows in let inv = c.self.invariant in let id = c.id.inside.place in
    let live = is_live rows (free_in b) id (subst (λ (x : Held × ℕ). IsSome (block_at x.0 x.1)) (λ i. (sym c.self.view_is i, sym c.id.view_is i)) c.requires) in
    let blocks = blocks_in rows (free_in b) in
    subst (λ (x : Held × ℕ). ((c.row_mut.result.ghost_name ≡ c.row_mut.result.ghost_name)
    × ((w : List ℤ) → held_in (record { region = with_row g id (rewritten_row g id w); free = b.free; spare = b.spare }) ≡ with_block x.0 x.1 w))
    × record { writes_back : Unit {0}; value : block_at x.0 x.1 ≡ Some c.row_mut.result.now; words : length c.row_mut.result.now ≡ x.0.words })
    (λ i. (c.self.view_is i, c.id.view_is i)) (
      (
        refl,
        λ w.
            let row = rewritten_row g id w in let s = slice_set rows id row in
            let is : blocks_in s (chain s b.spare b.free) ≡ slice_set blocks id (Some (refill g.width (words_at (get_or blocks id None)) w)) =
            ap (λ free. blocks_in s free) (chain_same rows row b.spare b.free id live.used) ∙ block_written rows row (free_in b) id live ∙ ap (λ o. slice_set blocks id (Some (refill g.width (words_at o) w))) (sym live.is) in
            ap (λ bl. record { words = g.width; spare = b.spare; blocks = bl }) is,
      ),
      record {
        writes_back = tt;
        value = live.is ∙ ap Some (sym c.row_mut.ensures.value);
        words = c.row_mut.ensures.width;
      },
    )
