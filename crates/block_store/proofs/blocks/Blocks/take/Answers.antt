use Rattle.std.proofs.Common.{◌≡◌, ◌-◌, ◌≤◌, ◌∷◌, [], get_or, slice_set, Some, None, ap, sym, ◌∙◌, subst, refl, arith}
use Rattle.block_store.specs.Held.{Held, Takes}
use Rattle.block_store.specs.Chain.{chain, next_of}
use Rattle.block_store.specs.Blocks.{held_in, blocks_in, IsChain}
use Rattle.block_store.specs.declared.blocks.Blocks.TheInside.{Inside}
use Rattle.block_store.proofs.Chains.{chain_pop, has_head, tail_is, taken}
use Rattle.block_store.proofs.blocks.Blocks.take.Goals as goal

pub invariant_of-self : goal.invariant_of-self
invariant_of-self c =
    let b = c.self.inside in let rows = b.region.rows in let inv = c.self.invariant in
    let xs = chain rows (b.spare - 1) (next_of rows b.free) in
    let left : 1 ≤ b.spare = omega (arith, c.if-self-eq0.false) in
    let all : IsChain rows (b.free ∷ xs) = subst (λ free. IsChain rows free) (chain_pop rows b.spare b.free left) inv.free in
    record {
      some = inv.some;
      rows = inv.rows;
      limit = inv.limit;
      first = omega (arith, c.next_in-self-inside.ensures, (all.places b.free (has_head b.free xs)).1);
      free = subst (λ n. IsChain rows (chain rows (b.spare - 1) n)) (sym c.next_in-self-inside.ensures) (tail_is rows b.free xs all);
    }

pub returns-clause-takes : goal.returns-clause-takes
returns-clause-takes c =
    let b = c.self.inside in let rows = b.region.rows in let inv = c.self.invariant in
    let xs = chain rows (b.spare - 1) (next_of rows b.free) in
    let left : 1 ≤ b.spare = omega (arith, c.if-self-eq0.false) in
    let pop = chain_pop rows b.spare b.free left in
    let t = taken rows b.free xs (subst (λ free. IsChain rows free) pop inv.free) in
    let new : Inside = record { region = b.region; free = c.next_in-self-inside.result; spare = b.spare - 1 } in
    let now : blocks_in rows (chain rows (b.spare - 1) c.next_in-self-inside.result) ≡ blocks_in rows xs = ap (λ n. blocks_in rows (chain rows (b.spare - 1) n)) c.next_in-self-inside.ensures in
    subst (λ (h : Held). Takes h (held_in new) b.free) c.self.view_is (record {
      fresh = ap (λ free. get_or (blocks_in rows free) b.free None) pop ∙ t.fresh;
      row = get_or rows b.free [];
      width = inv.rows.widths b.free t.less;
      spare = omega (arith, left);
      words = refl;
      blocks = now ∙ t.blocks ∙ ap (λ free. slice_set (blocks_in rows free) b.free (Some (get_or rows b.free []))) (sym pop);
      is = ap (λ blocks. get_or blocks b.free None) now ∙ t.is;
    })
