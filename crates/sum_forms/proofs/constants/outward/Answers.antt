use Rattle.std.proofs.Common.{neg_ℤ, ap, ◌∙◌, rules}
use Rattle.std.specs.Int.{w128}
use Rattle.std.proofs.lemmas.Int.{to_z-of_z}
use Rattle.sum_forms.proofs.Working.{outward_is}
use Rattle.sum_forms.proofs.constants.outward.Goals as goal

pub returns : goal.returns
returns c =
    outward_is c.args.decimals c.args.range _ _ c.in_ok-low.low c.in_ok-high.high _ _ c.in_ok-low.ensures c.in_ok-high.ensures
    (to_z-of_z w128 c.args.range.units.low (search rules)) (to_z-of_z w128 _ (search rules) ∙ c.negative-flipped.ensures ∙ ap neg_ℤ (to_z-of_z w128 c.args.range.units.high (search rules)))
    (to_z-of_z w128 _ (search rules)) (to_z-of_z w128 _ (search rules) ∙ c.negative-top.ensures ∙ ap neg_ℤ (to_z-of_z w128 c.in_ok-high.high (search rules)))
