use Rattle.std.proofs.Common.{rules}
use Rattle.std.specs.Int.{w128}
use Rattle.std.proofs.lemmas.Int.{to_z-of_z}
use Rattle.diff_layer.proofs.PackSizes.{held_high, held_low}
use Rattle.diff_layer.proofs.forms.receivers.fits.Goals as goal

pub returns-then-units-le0-clause-high : goal.returns-then-units-le0-clause-high
returns-then-units-le0-clause-high c =
    held_high c.args.mode c.args.receiver c.args.decimals c.args.bound c.in-Some.units _ c.in-Some.is (to_z-of_z w128 _ (search rules)) c.if-units-le0.true

pub returns-then-units-le0-clause-low : goal.returns-then-units-le0-clause-low
returns-then-units-le0-clause-low c =
    held_low c.args.mode c.args.receiver c.args.decimals c.args.bound c.in-Some.units _ c.in-Some.is (to_z-of_z w128 _ (search rules)) c.if-units-le0.true
