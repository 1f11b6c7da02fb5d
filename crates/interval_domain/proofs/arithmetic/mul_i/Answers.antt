use Rattle.std.proofs.Common.{◌*ℤ◌}
use Rattle.interval_domain.proofs.IntervalEnds.{low_held, high_held, corner_is_product, mul_gives}
use Rattle.interval_domain.proofs.arithmetic.mul_i.Goals as goal

pub low_products-requires : goal.low_products-requires
low_products-requires c =
    let a = c.args.a in
    let b = c.args.b in
    let low = low_held a c.requires.a.ordered in
    record {
      low = c.requires.results (a.low *ℤ b.low) (corner_is_product a b a.low b.low low (low_held b c.requires.b.ordered));
      high = c.requires.results (a.low *ℤ b.high) (corner_is_product a b a.low b.high low (high_held b c.requires.b.ordered));
    }

pub high_products-requires : goal.high_products-requires
high_products-requires c =
    let a = c.args.a in
    let b = c.args.b in
    let high = high_held a c.requires.a.ordered in
    record {
      low = c.requires.results (a.high *ℤ b.low) (corner_is_product a b a.high b.low high (low_held b c.requires.b.ordered));
      high = c.requires.results (a.high *ℤ b.high) (corner_is_product a b a.high b.high high (high_held b c.requires.b.ordered));
    }

pub returns : goal.returns
returns c =
    mul_gives c.args.a c.args.b c.low_products.result c.high_products.result c.hull.result c.low_products.ensures.value c.high_products.ensures.value c.hull.ensures.ends c.requires.a.ordered c.requires.b.ordered
