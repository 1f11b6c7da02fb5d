use Rattle.std.proofs.Common.{rules, arith, get_or, refl, ◌∙◌, ap}
use Rattle.cob_program.specs.ActView.{plain_program}
use Rattle.interval_domain.specs.Rows.{cells_of}
use Rattle.cob_graph.specs.declared.homes.Home.TheVariants.{Item}
use Rattle.diff_layer.specs.Plans.{plain_plan}
use Rattle.diff_layer.proofs.Filling.{fill_goes_on, fill_ends}
use Rattle.diff_layer.proofs.KnownEnds.{few_decimals, known_by, all_known}
use Rattle.diff_layer.proofs.pack.closing.know_cells.Goals as goal

pub known_cell-requires-clause-decimals : goal.known_cell-requires-clause-decimals
known_cell-requires-clause-decimals c =
    let few = few_decimals c.args.program.now.layout (plain_plan c.args.plan.now) c.requires.plan.short in
    let unit = c.requires.plan.unit in
    omega (arith, few, unit)

pub loop-k-preserved : goal.loop-k-preserved
loop-k-preserved c =
    let x = c.args in
    fill_goes_on (known_by (plain_program x.program.now) (cells_of x.row.now) x.plan.now.decimals) x.plan.now.cells.items c.loop-k.known _ c.loop-k.k _
    c.known_cell.result c.loop-k.invariant (search rules) refl
    (c.known_cell.ensures
    ∙ ap (λ cs. known_by (plain_program x.program.now) (cells_of x.row.now) x.plan.now.decimals (get_or cs c.loop-k.k (Item 0))) c.as_slice-pack.ensures.value)

pub returns : goal.returns
returns c =
    let x = c.args in
    fill_ends (known_by (plain_program x.program.now) (cells_of x.row.now) x.plan.now.decimals) x.plan.now.cells.items c.loop-k.known c.loop-k.k
    c.loop-k.invariant (search rules)
    ∙ ap (λ n. all_known (plain_program x.program.now) (cells_of x.row.now) n (plain_plan x.plan.now)) c.requires.plan.unit
