use Rattle.std.proofs.Common.{ℤ, pos, ◌≤ℤ◌, sym, subst, ◌∙◌, arith, rules}
use Rattle.std.specs.Int.{w128}
use Rattle.std.proofs.lemmas.Int.{ints, to_z-of_z}
use Rattle.dec_num.proofs.Powers.{ten_positive}
use Rattle.sum_forms.proofs.constants.floor.Goals as goal

pub floor_by-requires-clause-by : goal.floor_by-requires-clause-by
floor_by-requires-clause-by c =
    subst (λ (x : ℤ). pos 1 ≤ℤ x) (sym (to_z-of_z w128 _ (search rules) ∙ c.pow10.ensures)) (let h = ten_positive c.args.power in omega (arith, ints, h))
