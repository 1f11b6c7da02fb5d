use Rattle.std.proofs.Common.{refl, ◌+◌}
use Rattle.sum_ranges.proofs.Working.{product_gives}
use Rattle.transfer_ranges.proofs.arithmetic.product_range.Goals as goal

pub returns : goal.returns
returns c = product_gives c.args.a c.args.b _ c.mul_i.result (c.args.a.scale + c.args.b.scale) c.requires c.mul_i.ensures refl refl
