use Rattle.std.proofs.Common.{List, ℤ, ap, ◌∙◌}
use Rattle.diff_steps.specs.Matrices.{lesser}
use Rattle.diff_steps.specs.Guards.{demanded_if}
use Rattle.diff_layer.proofs.pack.matrix_orders.demand_zero.Goals as goal

pub returns-clause-value : goal.returns-clause-value
returns-clause-value c =
    let x = c.args in
    c.lower_to.ensures.value
    ∙ ap (λ (l : List ℤ). lesser x.size l c.demand_if.new.m) c.demand_if-2.ensures.value
    ∙ ap (λ (l : List ℤ). lesser x.size (demanded_if x.size x.form x.m.now) l) (c.demand_if.ensures.value
    ∙ ap (λ (l : List ℤ). demanded_if x.size c.turned.result l) c.copy_from_slice.ensures.after
    ∙ ap (λ f. demanded_if x.size f x.m.now) c.turned.ensures.value)
