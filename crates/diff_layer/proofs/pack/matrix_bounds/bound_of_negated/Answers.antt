use Rattle.std.proofs.Common.{◌∙◌}
use Rattle.diff_layer.proofs.Shown.{negated_shown}
use Rattle.diff_layer.proofs.pack.matrix_bounds.bound_of_negated.Goals as goal

pub returns-clause-value : goal.returns-clause-value
returns-clause-value c =
    c.bound.ensures.value ∙ negated_shown c.args.size c.args.m.now c.args.form.now c.negated.result c.negated.ensures.value c.negated.ensures.small
