use Rattle.std.proofs.Common.{sym, ◌∙◌}
use Rattle.interval_domain.proofs.Flags.{said_reached, same_count, leq_unreached, leq_no_more, leq_reached}
use Rattle.interval_domain.proofs.order.leq.Goals as goal

pub returns-then-not-a_reached : goal.returns-then-not-a_reached
returns-then-not-a_reached c = leq_unreached c.args.a.now c.args.b.now (sym c.is_reached-a_reached.ensures ∙ c.if-not-a_reached.true)

pub returns-then-not-b_reached : goal.returns-then-not-b_reached
returns-then-not-b_reached c =
    leq_no_more c.args.a.now c.args.b.now (sym c.is_reached-a_reached.ensures ∙ c.if-not-a_reached.false) (sym c.is_reached-b_reached.ensures ∙ c.if-not-b_reached.true)

pub cells_leq-requires-clause-a : goal.cells_leq-requires-clause-a
cells_leq-requires-clause-a c = said_reached c.args.a.now c.requires.a (sym c.is_reached-a_reached.ensures ∙ c.if-not-a_reached.false)

pub cells_leq-requires-clause-b : goal.cells_leq-requires-clause-b
cells_leq-requires-clause-b c = said_reached c.args.b.now c.requires.b (sym c.is_reached-b_reached.ensures ∙ c.if-not-b_reached.false)

pub cells_leq-requires-clause-cells : goal.cells_leq-requires-clause-cells
cells_leq-requires-clause-cells c =
    same_count c.args.a.now c.args.b.now
    (said_reached c.args.a.now c.requires.a (sym c.is_reached-a_reached.ensures ∙ c.if-not-a_reached.false))
    (said_reached c.args.b.now c.requires.b (sym c.is_reached-b_reached.ensures ∙ c.if-not-b_reached.false))
    c.requires.words

pub returns : goal.returns
returns c =
    leq_reached c.args.a.now c.args.b.now c.cells_leq.result
    (sym c.is_reached-a_reached.ensures ∙ c.if-not-a_reached.false) (sym c.is_reached-b_reached.ensures ∙ c.if-not-b_reached.false) c.cells_leq.ensures
