use Rattle.std.proofs.Common.{◌∙◌, ◌+◌, ◌||◌, ap, sym}
use Rattle.cob_typed_exprs.specs.Sums.{terms_have_item, facts_have_item}
use Rattle.cob_typed_exprs.proofs.Loops.{terms_from, facts_from, term_step, fact_step, terms_end, facts_end}
use Rattle.cob_typed_exprs.proofs.shapes.+items.Goals as goal

pub facts_have_item-returns-then-fact_has_item : goal.facts_have_item-returns-then-fact_has_item
facts_have_item-returns-then-fact_has_item t c =
    let xs = c.args.facts.now in
    let i = c.loop-fact.fact-index in
    sym (ap (λ b. b || facts_have_item (facts_from xs (i + 1))) (sym c.fact_has_item.ensures ∙ c.if-fact_has_item.true))
    ∙ sym (ap facts_have_item (fact_step xs i c.fact-item.result c.loop-fact-test.true c.fact-item.is)) ∙ c.loop-fact.invariant

pub facts_have_item-loop-fact-preserved : goal.facts_have_item-loop-fact-preserved
facts_have_item-loop-fact-preserved t c =
    let xs = c.args.facts.now in
    let i = c.loop-fact.fact-index in
    sym (ap (λ b. b || facts_have_item (facts_from xs (i + 1))) (sym c.fact_has_item.ensures ∙ c.if-fact_has_item.false))
    ∙ sym (ap facts_have_item (fact_step xs i c.fact-item.result c.loop-fact-test.true c.fact-item.is)) ∙ c.loop-fact.invariant

pub facts_have_item-returns : goal.facts_have_item-returns
facts_have_item-returns t c =
    sym (ap facts_have_item (facts_end c.args.facts.now c.loop-fact.fact-index c.loop-fact-test.false)) ∙ c.loop-fact.invariant

pub terms_have_item-returns-then-term_has_item : goal.terms_have_item-returns-then-term_has_item
terms_have_item-returns-then-term_has_item t c =
    let xs = c.args.terms.now in
    let i = c.loop-term.term-index in
    sym (ap (λ b. b || terms_have_item (terms_from xs (i + 1))) (sym c.term_has_item.ensures ∙ c.if-term_has_item.true))
    ∙ sym (ap terms_have_item (term_step xs i c.term-item.result c.loop-term-test.true c.term-item.is)) ∙ c.loop-term.invariant

pub terms_have_item-loop-term-preserved : goal.terms_have_item-loop-term-preserved
terms_have_item-loop-term-preserved t c =
    let xs = c.args.terms.now in
    let i = c.loop-term.term-index in
    sym (ap (λ b. b || terms_have_item (terms_from xs (i + 1))) (sym c.term_has_item.ensures ∙ c.if-term_has_item.false))
    ∙ sym (ap terms_have_item (term_step xs i c.term-item.result c.loop-term-test.true c.term-item.is)) ∙ c.loop-term.invariant

pub terms_have_item-returns : goal.terms_have_item-returns
terms_have_item-returns t c =
    sym (ap terms_have_item (terms_end c.args.terms.now c.loop-term.term-index c.loop-term-test.false)) ∙ c.loop-term.invariant
