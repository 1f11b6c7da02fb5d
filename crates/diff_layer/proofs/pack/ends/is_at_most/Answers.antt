use Rattle.std.proofs.Common.{rules}
use Rattle.std.specs.Int.{w128}
use Rattle.std.proofs.lemmas.Int.{to_z-of_z}
use Rattle.diff_layer.proofs.Nearness.{too_big_high, too_big_low}
use Rattle.diff_layer.proofs.pack.ends.is_at_most.Goals as goal

pub returns-in-TooBig-clause-high : goal.returns-in-TooBig-clause-high
returns-in-TooBig-clause-high c =
    too_big_high c.args.mode c.args.receiver c.args.scale c.args.units _ (to_z-of_z w128 _ (search rules)) (c.fit.ensures.too_big.0 c.in-TooBig.is)

pub returns-in-TooBig-clause-low : goal.returns-in-TooBig-clause-low
returns-in-TooBig-clause-low c =
    too_big_low c.args.mode c.args.receiver c.args.scale c.args.units _ (to_z-of_z w128 _ (search rules)) (c.fit.ensures.too_big.0 c.in-TooBig.is)
