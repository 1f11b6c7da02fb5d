use Rattle.cob_typed_exprs.specs.Sizes.{plain_size}
use Rattle.range_driver.proofs.Fitting.{left_over}
use Rattle.range_driver.proofs.stores.is_small_remainder.Goals as goal

pub returns-then-scale-le18 : goal.returns-then-scale-le18
returns-then-scale-le18 c =
    let x = c.in-Some-Some in
    left_over c.args.top c.args.under (plain_size x.n) (plain_size x.d) c.args.scale c.is_small_rest.result x.ensures.0 x.ensures'.0 c.if-scale-le18.true x.ensures.2 x.ensures'.2 c.is_small_rest.ensures
