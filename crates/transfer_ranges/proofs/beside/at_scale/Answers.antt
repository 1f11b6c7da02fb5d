use Rattle.std.proofs.Common.{◌≡◌, ◌∙◌, ◌-◌, ◌*ℤ◌, ℤ, subst, arith, to_z, of_z}
use Rattle.std.specs.Prelude.{◌↔◌}
use Rattle.std.specs.Int.{w128}
use Rattle.std.proofs.lemmas.Int.{ints}
use Rattle.dec_num.proofs.Powers.{ten_positive}
use Rattle.interval_domain.specs.Bounds.{Holds}
use Rattle.transfer_ranges.proofs.beside.at_scale.Goals as goal

pub divided-requires-clause-by : goal.divided-requires-clause-by
divided-requires-clause-by c =
    let by : to_z w128 (of_z w128 c.pow10.result) ≡ c.pow10.result = omega (arith, ints) in
    omega (arith, ints, by, c.pow10.ensures, ten_positive (c.args.scale - c.args.own))

pub returns : goal.returns
returns c =
    let by : to_z w128 (of_z w128 c.pow10.result) ≡ c.pow10.result = omega (arith, ints) in
    subst (λ t. (k : ℤ) → Holds c.divided.result k ↔ Holds c.args.a (k *ℤ t)) (by ∙ c.pow10.ensures) c.divided.ensures
