use Rattle.std.proofs.Common.{arith}
use Rattle.std.proofs.lemmas.Int.{ints, to_z-of_z}
use Rattle.dec_num.proofs.Powers.{ten_monotone}
use Rattle.cob_store.proofs.stores.size_of.Goals as goal

pub overflow_cast-result : goal.overflow_cast-result
overflow_cast-result c = let b = ten_monotone c.args.digits 18 c.requires.digits in omega (arith, ints, b)

pub returns : goal.returns
returns c = let b = ten_monotone c.args.digits 18 c.requires.digits in grind (arith, ints, to_z-of_z)
