use Rattle.std.proofs.Common.{◌∙◌}
use Rattle.cob_graph.proofs.Rising.{number_behind_lower, number_here}
use Rattle.cob_graph.proofs.item_cells.cell_of.Goals as goal

pub returns-in-None : goal.returns-in-None
returns-in-None c = λ p same.
    c.if_here-in-None.ensures ∙ number_behind_lower p c.args.cells.now c.args.place c.lower_cells.result same (c.lower_cells.ensures p same)

pub returns-in_default : goal.returns-in_default
returns-in_default c = λ p same.
    number_here p c.args.cells.now c.args.place c.args.place c.if_here.result same c.if_here.ensures c.in_default.not-None
