use Rattle.std.proofs.Common.{◌∙◌, sym, ap}
use Rattle.cob_graph.specs.Nesting.{◌&◌}
use Rattle.cob_graph.specs.Listing.{plain_found}
use Rattle.cob_graph.proofs.ListingLemmas.{one_more, and_nothing, found_step, found_end}
use Rattle.cob_graph.proofs.calls.Found.add_all.Goals as goal

pub loop-statement-preserved : goal.loop-statement-preserved
loop-statement-preserved c =
    let l = c.loop-statement in
    let here =
    found_step c.args.para c.args.statements.now l.statement-index c.statement-item.result c.loop-statement-test.true c.statement-item.is in
    one_more (plain_found l.self) _ _ _ _ c.in_ok-add_stmt.ensures (sym (ap (λ f. plain_found l.self & f) here) ∙ l.invariant)

pub returns : goal.returns
returns c =
    let l = c.loop-statement in
    sym (ap (λ f. plain_found l.self & f) (found_end c.args.para c.args.statements.now l.statement-index c.loop-statement-test.false) ∙ and_nothing (plain_found l.self))
    ∙ l.invariant
