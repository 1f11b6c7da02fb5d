use Rattle.std.proofs.Common.{sym, ap, subst, arith, ◌∙◌}
use Rattle.diff_bounds.specs.Matrix.{IsMatrix}
use Rattle.diff_steps.specs.Packs.{size_of}
use Rattle.edge_parts.specs.PartView.{plain_divisor}
use Rattle.diff_layer.specs.Plans.{plain_plan}
use Rattle.diff_layer.specs.Views.{program_of, known_in}
use Rattle.diff_layer.proofs.Divisors.{apart_is}
use Rattle.diff_layer.proofs.KnownEnds.{few_decimals}
use Rattle.diff_layer.proofs.pack.faults.is_apart_in.Goals as goal

pub view_of-pack-requires-clause-small : goal.view_of-pack-requires-clause-small
view_of-pack-requires-clause-small c =
    let few = few_decimals (program_of c.args.items.now).layout (plain_plan c.args.plan.now) c.requires.plan.short in
    let unit = c.requires.plan.unit in
    omega (arith, few, unit)

pub returns : goal.returns
returns c =
    let x = c.args in
    c.is_apart.ensures
    ∙ apart_is (program_of x.items.now) (known_in x.items.now) (plain_divisor x.divisor) c.view_of-pack.result.cells.now (plain_plan x.plan.now) x.m.now c.divisor_form.result
    c.view_of-pack.ensures.pack c.divisor_form.ensures.value

pub is_apart-requires-clause-m : goal.is_apart-requires-clause-m
is_apart-requires-clause-m c =
    subst (λ n. IsMatrix n c.args.m.now) (sym (ap size_of c.view_of-pack.ensures.pack)) c.requires.matrix
