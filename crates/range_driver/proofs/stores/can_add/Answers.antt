use Rattle.cob_typed_exprs.specs.Sizes.{plain_size}
use Rattle.range_driver.proofs.Fitting.{added}
use Rattle.range_driver.proofs.stores.can_add.Goals as goal

pub returns-in-Some-Some : goal.returns-in-Some-Some
returns-in-Some-Some c =
    let x = c.in-Some-Some in
    added c.args.a c.args.b (plain_size x.one) (plain_size x.other) c.is_small_sum.result x.ensures.0 x.ensures'.0 c.is_small_sum.ensures
