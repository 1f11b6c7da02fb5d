use Rattle.std.proofs.Common.{◌≡◌, true, false, sym, ◌∙◌, rules}
use Rattle.cob_program.specs.ActView.{plain_program}
use Rattle.cob_graph_build.proofs.PlaceLemmas.{range_full, range_empty}
use Rattle.cob_graph_build.proofs.places.first_of_range.Goals as goal

pub returns-then-not-is_empty : goal.returns-then-not-is_empty
returns-then-not-is_empty c = λ copies.
    let e : c.is_empty.result ≡ false = search rules in
    sym (range_full (plain_program c.args.program.now) copies c.body_at.result.now c.loop-place.place c.args.end
    c.args.at c.args.next c.loop-place-test.true c.body_at.ensures (sym c.is_empty.ensures ∙ e))
    ∙ c.loop-place.invariant copies

pub loop-place-preserved : goal.loop-place-preserved
loop-place-preserved c = λ copies.
    let e : c.is_empty.result ≡ true = search rules in
    sym (range_empty (plain_program c.args.program.now) copies c.body_at.result.now c.loop-place.place c.args.end
    c.args.at c.args.next c.loop-place-test.true c.body_at.ensures (sym c.is_empty.ensures ∙ e))
    ∙ c.loop-place.invariant copies
