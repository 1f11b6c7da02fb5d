use Rattle.std.proofs.Common.{◌-◌, ◌-ℤ◌, ℤ, pos, get_or, ap, ◌∙◌, arith, rules}
use Rattle.std.specs.Int.{w128}
use Rattle.std.proofs.lemmas.Int.{to_z-of_z}
use Rattle.diff_bounds.proofs.Changes.{less_one}
use Rattle.diff_bounds.proofs.form.altered.less.Goals as goal

pub returns : goal.returns
returns c =
    less_one c.args.form.now c.with_coefficient.result c.args.place _ (omega arith) c.requires.place c.requires.form c.requires.small c.with_coefficient.ensures
    (to_z-of_z w128 _ (search rules) ∙ ap (λ (z : ℤ). z -ℤ pos 1) (to_z-of_z w128 (get_or c.args.form.now.coefs (c.args.place - 1) (pos 0)) (search rules)))
