use Rattle.std.proofs.Common.{sym, ap, subst, arith}
use Rattle.diff_bounds.specs.Matrix.{IsMatrix}
use Rattle.diff_steps.specs.Packs.{size_of}
use Rattle.diff_layer.specs.Plans.{plain_plan}
use Rattle.diff_layer.specs.Views.{program_of}
use Rattle.diff_layer.proofs.KnownEnds.{few_decimals}
use Rattle.diff_layer.proofs.pack.indexing.pack_shows.Goals as goal

pub view_of-pack-requires-clause-small : goal.view_of-pack-requires-clause-small
view_of-pack-requires-clause-small c =
    let few = few_decimals (program_of c.args.items.now).layout (plain_plan c.args.plan.now) c.requires.plan.short in
    let unit = c.requires.plan.unit in
    omega (arith, few, unit)

pub end_in_table-requires-clause-decimals : goal.end_in_table-requires-clause-decimals
end_in_table-requires-clause-decimals c =
    let few = few_decimals (program_of c.args.items.now).layout (plain_plan c.args.plan.now) c.requires.plan.short in
    let unit = c.requires.plan.unit in
    omega (arith, few, unit)

pub end_in_table-requires-clause-m : goal.end_in_table-requires-clause-m
end_in_table-requires-clause-m c =
    subst (λ n. IsMatrix n c.args.m.now) (sym (ap size_of c.view_of-pack.ensures.pack)) c.requires.matrix
