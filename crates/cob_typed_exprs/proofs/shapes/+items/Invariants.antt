use Rattle.std.proofs.Common.{◌≡◌}
use Rattle.cob_typed_exprs.specs.Sums.{terms_have_item, facts_have_item}
use Rattle.cob_typed_exprs.proofs.Loops.{terms_from, facts_from}
use Rattle.cob_typed_exprs.proofs.shapes.+items.Given as goal

abbrev pub invariant-facts_have_item-loop-fact : goal.invariant-facts_have_item-loop-fact
invariant-facts_have_item-loop-fact l = facts_have_item (facts_from l.facts l.fact-index) ≡ facts_have_item (facts_from l.facts 0)

abbrev pub invariant-terms_have_item-loop-term : goal.invariant-terms_have_item-loop-term
invariant-terms_have_item-loop-term l = terms_have_item (terms_from l.terms l.term-index) ≡ terms_have_item (terms_from l.terms 0)
