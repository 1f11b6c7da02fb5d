use Rattle.std.proofs.Common.{ℤ, pos, ◌*ℤ◌, ap, ◌∙◌, rules}
use Rattle.std.specs.Int.{w128}
use Rattle.std.proofs.lemmas.Int.{to_z-of_z}
use Rattle.diff_layer.proofs.PackSizes.{trunc_along, round_along, powers_rise, power_small, round_limit}
use Rattle.diff_layer.proofs.forms.receivers.size_fits.Goals as goal

pub twice_less-requires-clause-above : goal.twice_less-requires-clause-above
twice_less-requires-clause-above c =
    powers_rise c.args.receiver.digits c.args.decimals _ _ (to_z-of_z w128 _ (search rules) ∙ c.pow10.ensures) (to_z-of_z w128 _ (search rules) ∙ c.pow10-limit.ensures)

pub twice_less-requires-clause-limit : goal.twice_less-requires-clause-limit
twice_less-requires-clause-limit c =
    power_small c.args.receiver.digits c.args.decimals _ c.requires.digits c.requires.decimals (to_z-of_z w128 _ (search rules) ∙ c.pow10-limit.ensures)

pub returns-in-Trunc : goal.returns-in-Trunc
returns-in-Trunc c =
    c.is_less.ensures
    ∙ trunc_along c.args.mode c.args.receiver c.args.decimals c.args.units _ _ c.in-Trunc.is c.requires.units (to_z-of_z w128 _ (search rules))
    (to_z-of_z w128 _ (search rules) ∙ c.pow10-limit.ensures)

pub returns-in-Round : goal.returns-in-Round
returns-in-Round c =
    c.is_less-in-Round.ensures
    ∙ round_along c.args.mode c.args.receiver c.args.decimals c.args.units _ _ c.in-Round.is c.requires.units
    (to_z-of_z w128 _ (search rules) ∙ ap (λ (z : ℤ). pos 2 *ℤ z) (to_z-of_z w128 c.args.units (search rules)))
    (to_z-of_z w128 _ (search rules) ∙ c.twice_less.ensures.value
    ∙ round_limit c.args.receiver.digits c.args.decimals _ _ (to_z-of_z w128 _ (search rules) ∙ c.pow10.ensures) (to_z-of_z w128 _ (search rules) ∙ c.pow10-limit.ensures))
