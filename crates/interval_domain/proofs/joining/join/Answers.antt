use Rattle.std.proofs.Common.{sym, ◌∙◌}
use Rattle.interval_domain.proofs.Flags.{said_reached, same_count, join_stays, join_arrives, join_reached}
use Rattle.interval_domain.proofs.joining.join.Goals as goal

pub returns-then-not-b_reached : goal.returns-then-not-b_reached
returns-then-not-b_reached c = join_stays c.args.a.now c.args.b.now c.requires.a (sym c.is_reached-b_reached.ensures ∙ c.if-not-b_reached.true)

pub returns-then-not-a_reached : goal.returns-then-not-a_reached
returns-then-not-a_reached c =
    c.take_row.ensures ∙ join_arrives c.args.a.now c.args.b.now c.requires.b c.requires.words (sym c.is_reached-a_reached.ensures ∙ c.if-not-a_reached.true)

pub cell_count-cells-requires : goal.cell_count-cells-requires
cell_count-cells-requires c = said_reached c.args.b.now c.requires.b (sym c.is_reached-b_reached.ensures ∙ c.if-not-b_reached.false)

pub join_cells-requires-clause-a : goal.join_cells-requires-clause-a
join_cells-requires-clause-a c = said_reached c.args.a.now c.requires.a (sym c.is_reached-a_reached.ensures ∙ c.if-not-a_reached.false)

pub join_cells-requires-clause-b : goal.join_cells-requires-clause-b
join_cells-requires-clause-b c = said_reached c.args.b.now c.requires.b (sym c.is_reached-b_reached.ensures ∙ c.if-not-b_reached.false)

pub join_cells-requires-clause-of_a : goal.join_cells-requires-clause-of_a
join_cells-requires-clause-of_a c =
    same_count c.args.a.now c.args.b.now
    (said_reached c.args.a.now c.requires.a (sym c.is_reached-a_reached.ensures ∙ c.if-not-a_reached.false))
    (said_reached c.args.b.now c.requires.b (sym c.is_reached-b_reached.ensures ∙ c.if-not-b_reached.false))
    c.requires.words
    ∙ sym c.cell_count-cells.ensures

pub returns : goal.returns
returns c =
    c.join_cells.ensures
    ∙ join_reached c.args.a.now c.args.b.now (sym c.is_reached-a_reached.ensures ∙ c.if-not-a_reached.false) (sym c.is_reached-b_reached.ensures ∙ c.if-not-b_reached.false)
