use Rattle.std.proofs.Common.{arith}
use Rattle.block_store.proofs.Chains.{own_rows, at_most_words, linked_chain, none_in_use}
use Rattle.block_store.proofs.blocks.Blocks.reserve.Goals as goal

pub invariant_of-result : goal.invariant_of-result
invariant_of-result c =
    let g = c.link.new.region in let has = c.link.ensures.rows in
    record {
      some = omega (arith, has.width_is, c.requires.some);
      rows = own_rows c.args.words c.args.count g has;
      limit = omega (arith, has.count_is, at_most_words c.args.words c.args.count c.requires.some c.requires.limit);
      first = omega arith;
      free = linked_chain g.rows c.args.count has.count_is c.link.ensures.links;
    }

pub returns : goal.returns
returns c =
    let g = c.link.new.region in let has = c.link.ensures.rows in
    λ i. record { words = has.width_is i; spare = c.args.count; blocks = none_in_use g.rows c.args.count has.count_is c.link.ensures.links i }
