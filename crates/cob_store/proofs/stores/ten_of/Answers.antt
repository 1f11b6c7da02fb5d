use Rattle.std.proofs.Common.{arith}
use Rattle.dec_num.proofs.Powers.{ten_monotone}
use Rattle.cob_store.proofs.Parts.{few_digits}
use Rattle.cob_store.proofs.stores.ten_of.Goals as goal

pub returns-in-Some-clause-bound : goal.returns-in-Some-clause-bound
returns-in-Some-clause-bound c =
    omega (arith, c.limit_of.ensures, ten_monotone _ 18 (few_digits c.in-Some.item.now.form _ c.in-Some.ensures.sound.form))
