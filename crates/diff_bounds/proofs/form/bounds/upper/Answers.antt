use Rattle.std.proofs.Common.{◌≡◌, ◌+◌, ℤ, sym, subst, ◌∙◌, rules}
use Rattle.std.specs.Int.{w128}
use Rattle.std.proofs.lemmas.Int.{to_z-of_z}
use Rattle.diff_bounds.specs.Matrix.{word, IsWord}
use Rattle.diff_bounds.specs.Upper.{coef_at}
use Rattle.diff_bounds.proofs.Bounded.{upper_is_word}
use Rattle.diff_bounds.proofs.form.bounds.upper.Goals as goal

pub returns-clause-word : goal.returns-clause-word
returns-clause-word c =
    subst (λ (z : ℤ). IsWord z) (sym (to_z-of_z w128 c.least_bound.result (search rules) ∙ c.least_bound.ensures))
    (upper_is_word (word (c.args.size + 1) c.args.m.now) (coef_at c.args.form.now.coefs) _ c.args.size)
