use Rattle.std.proofs.Common.{◌≡◌, ℕ, List, ℤ, length, slice_set, get_or, sym, ap, ◌∙◌, subst, refl, arith, length-set}
use Rattle.std.specs.Prelude.{IsSome, Some, None}
use Rattle.std.specs.List.{refill}
use Rattle.block_store.specs.Grid.{with_row}
use Rattle.block_store.specs.RegionLends.{rewritten_row}
use Rattle.block_store.specs.Held.{Held, block_at}
use Rattle.block_store.specs.Chain.{chain}
use Rattle.block_store.specs.Blocks.{free_in, held_in, blocks_in, IsChain}
use Rattle.block_store.specs.BlocksLends.{with_block, words_at}
use Rattle.block_store.proofs.Chains.{is_live, rewritten_wide, has_rows_set, own_rows, chain_same, chain_is, block_written}
use Rattle.block_store.proofs.blocks.Blocks.pair.Goals as goal

pub pair-requires-clause-place : goal.pair-requires-clause-place
pair-requires-clause-place c =
    let b = c.self.inside in let rows = b.region.rows in let id = c.dst.inside.place in
    let live = is_live rows (free_in b) id (subst (λ (x : Held × ℕ). IsSome (block_at x.0 x.1)) (λ i. (sym c.self.view_is i, sym c.dst.view_is i)) c.requires.dst) in
    live.less

pub pair-requires-clause-beside : goal.pair-requires-clause-beside
pair-requires-clause-beside c =
    let b = c.self.inside in let rows = b.region.rows in
    let other = is_live rows (free_in b) c.src.inside.place (subst (λ (x : Held × ℕ). IsSome (block_at x.0 x.1)) (λ i. (sym c.self.view_is i, sym c.src.view_is i)) c.requires.src) in
    other.less

pub invariant_of-self-lent : goal.invariant_of-self-lent
invariant_of-self-lent c = λ ws.
    let b = c.self.inside in let g = b.region in let rows = g.rows in let inv = c.self.invariant in let id = c.dst.inside.place in
    let live = is_live rows (free_in b) id (subst (λ (x : Held × ℕ). IsSome (block_at x.0 x.1)) (λ i. (sym c.self.view_is i, sym c.dst.view_is i)) c.requires.dst) in
    let row = rewritten_row g id ws in
    let count = length-set rows id row in
    record {
      some = inv.some;
      rows = own_rows g.width (length rows) (with_row g id row) (has_rows_set g.width (length rows) g id row inv.rows (rewritten_wide g id ws (inv.rows.widths id live.less)));
      limit = omega (arith, inv.limit, count);
      first = omega (arith, inv.first, count);
      free = subst (λ free. IsChain (slice_set rows id row) free) (sym (chain_same rows row b.spare b.free id live.used)) (chain_is rows row id (free_in b) live.used inv.free);
    }

pub returns : goal.returns
returns c =
    let b = c.self.inside in let g = b.region in let rows = g.rows in let inv = c.self.invariant in let id = c.dst.inside.place in
    let live = is_live rows (free_in b) id (subst (λ (x : Held × ℕ). IsSome (block_at x.0 x.1)) (λ i. (sym c.self.view_is i, sym c.dst.view_is i)) c.requires.dst) in
    let other = is_live rows (free_in b) c.src.inside.place (subst (λ (x : Held × ℕ). IsSome (block_at x.0 x.1)) (λ i. (sym c.self.view_is i, sym c.src.view_is i)) c.requires.src) in
    let blocks = blocks_in rows (free_in b) in
    subst (λ (x : Held × ℕ × ℕ). ((c.pair.result.0.ghost_name ≡ c.pair.result.0.ghost_name)
    × ((w : List ℤ) → held_in (record { region = with_row g id (rewritten_row g id w); free = b.free; spare = b.spare }) ≡ with_block x.0 x.1 w))
    × record { writes_back : Unit {0}; dst : block_at x.0 x.1 ≡ Some c.pair.result.0.now; src : block_at x.0 x.2 ≡ Some c.pair.result.1.now; words : length c.pair.result.0.now ≡ x.0.words; words_src : length c.pair.result.1.now ≡ x.0.words })
    (λ i. (c.self.view_is i, c.dst.view_is i, c.src.view_is i)) (
      (
        refl,
        λ w.
            let row = rewritten_row g id w in let s = slice_set rows id row in
            let is : blocks_in s (chain s b.spare b.free) ≡ slice_set blocks id (Some (refill g.width (words_at (get_or blocks id None)) w)) =
            ap (λ free. blocks_in s free) (chain_same rows row b.spare b.free id live.used) ∙ block_written rows row (free_in b) id live ∙ ap (λ o. slice_set blocks id (Some (refill g.width (words_at o) w))) (sym live.is) in
            ap (λ bl. record { words = g.width; spare = b.spare; blocks = bl }) is,
      ),
      record {
        writes_back = tt;
        dst = live.is ∙ ap Some (sym c.pair.ensures.value);
        src = other.is ∙ ap Some (sym c.pair.ensures.beside);
        words = c.pair.ensures.width;
        words_src = c.pair.ensures.width_beside;
      },
    )
