use Rattle.std.proofs.Common.{List, ℤ, ap, ◌∙◌}
use Rattle.diff_steps.specs.Matrices.{lesser}
use Rattle.diff_steps.specs.Stores.{assigned_or_forgotten}
use Rattle.diff_layer.proofs.pack.matrix_storing.store_either.Goals as goal

pub returns-clause-value : goal.returns-clause-value
returns-clause-value c =
    let x = c.args in
    c.lower_to.ensures.value
    ∙ ap (λ (l : List ℤ). lesser x.size l c.assign_or_forget.new.m) c.assign_or_forget-2.ensures.value
    ∙ ap (λ (l : List ℤ). lesser x.size (assigned_or_forgotten x.size x.to x.form x.m.now) l) (c.assign_or_forget.ensures.value
    ∙ ap (λ (l : List ℤ). assigned_or_forgotten x.size x.to c.turned.result l) c.copy_from_slice.ensures.after
    ∙ ap (λ f. assigned_or_forgotten x.size x.to f x.m.now) c.turned.ensures.value)
