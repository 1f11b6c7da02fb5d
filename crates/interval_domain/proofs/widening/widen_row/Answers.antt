use Rattle.std.proofs.Common.{sym, ◌∙◌}
use Rattle.interval_domain.specs.Rows.{lists_of}
use Rattle.interval_domain.proofs.Flags.{said_reached, same_count, widen_stays, widen_arrives, widen_reached, within_reached}
use Rattle.interval_domain.proofs.widening.widen_row.Goals as goal

pub returns-then-not-b_reached : goal.returns-then-not-b_reached
returns-then-not-b_reached c = widen_stays (lists_of c.args.thresholds.now) c.args.a.now c.args.b.now c.requires.a (sym c.is_reached-b_reached.ensures ∙ c.if-not-b_reached.true)

pub returns-then-not-a_reached : goal.returns-then-not-a_reached
returns-then-not-a_reached c =
    c.take_row.ensures ∙ widen_arrives (lists_of c.args.thresholds.now) c.args.a.now c.args.b.now c.requires.b c.requires.words (sym c.is_reached-a_reached.ensures ∙ c.if-not-a_reached.true)

pub cell_count-cells-requires : goal.cell_count-cells-requires
cell_count-cells-requires c = said_reached c.args.b.now c.requires.b (sym c.is_reached-b_reached.ensures ∙ c.if-not-b_reached.false)

pub widen_cells-requires-clause-a : goal.widen_cells-requires-clause-a
widen_cells-requires-clause-a c = said_reached c.args.a.now c.requires.a (sym c.is_reached-a_reached.ensures ∙ c.if-not-a_reached.false)

pub widen_cells-requires-clause-b : goal.widen_cells-requires-clause-b
widen_cells-requires-clause-b c = said_reached c.args.b.now c.requires.b (sym c.is_reached-b_reached.ensures ∙ c.if-not-b_reached.false)

pub widen_cells-requires-clause-of_a : goal.widen_cells-requires-clause-of_a
widen_cells-requires-clause-of_a c =
    same_count c.args.a.now c.args.b.now
    (said_reached c.args.a.now c.requires.a (sym c.is_reached-a_reached.ensures ∙ c.if-not-a_reached.false))
    (said_reached c.args.b.now c.requires.b (sym c.is_reached-b_reached.ensures ∙ c.if-not-b_reached.false))
    c.requires.words
    ∙ sym c.cell_count-cells.ensures

pub widen_cells-requires-clause-within : goal.widen_cells-requires-clause-within
widen_cells-requires-clause-within c = within_reached (lists_of c.args.thresholds.now) c.args.b.now (sym c.is_reached-b_reached.ensures ∙ c.if-not-b_reached.false) c.requires.within

pub returns : goal.returns
returns c =
    c.widen_cells.ensures
    ∙ widen_reached (lists_of c.args.thresholds.now) c.args.a.now c.args.b.now (sym c.is_reached-a_reached.ensures ∙ c.if-not-a_reached.false) (sym c.is_reached-b_reached.ensures ∙ c.if-not-b_reached.false)
