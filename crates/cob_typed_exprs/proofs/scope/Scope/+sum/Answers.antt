use Rattle.std.proofs.Common.{◌++◌, ◌∙◌, ◌+◌, ap, sym, map}
use Rattle.std.proofs.lemmas.List.{append-nil}
use Rattle.cob_tree.specs.ExprView.{plain_expr, plain_term, plain_fact, added, multiplied}
use Rattle.cob_tree.specs.Expr.{terms_of, facts_of}
use Rattle.cob_tree.specs.declared.expr.Expr.{out-Expr}
use Rattle.cob_tree.specs.declared.expr.Term.{out-Term}
use Rattle.cob_program.specs.SumView.{plain_part, plain_factor}
use Rattle.cob_typed_exprs.specs.Judged.{noted}
use Rattle.cob_typed_exprs.specs.Sums.{parts_in, factors_in, part_of, factor_of}
use Rattle.cob_typed_exprs.proofs.Loops.{terms_from, facts_from, term_step, fact_step, terms_end, facts_end, pushed, expr_is, term_is, sum_noted, sum_value, part_noted, part_value, first_and_others}
use Rattle.cob_typed_exprs.proofs.scope.Scope.+sum.Goals as goal

pub add_factors-loop-fact-preserved : goal.add_factors-loop-fact-preserved
add_factors-loop-fact-preserved t c =
    let s = c.args.self.now in
    let xs = c.args.facts.now in
    let l = c.loop-fact in
    let i = l.fact-index in
    let x = c.fact-item.result in
    let here = fact_step xs i x c.loop-fact-test.true c.fact-item.is in
    let told = c.is_divided_by.ensures in record {
      value = pushed plain_factor l.factors.items c.push.new.self.items c.in_ok-factor.field-0 _ (factors_in s (facts_from xs (i + 1))).value _ c.in_ok-push.ensures.items
          (c.in_ok-factor.ensures.value ∙ ap (λ b. (factor_of s b (plain_fact x.1)).value) told)
          (sym (ap (λ ts. map plain_factor l.factors.items ++ (factors_in s ts).value) here) ∙ l.invariant.value);
      noted = ap (λ fs. noted c.args.line fs (factors_in s (facts_from xs (i + 1))).broken)
          (c.in_ok-factor.ensures.noted ∙ ap (λ b. noted c.args.line l.findings.items (factor_of s b (plain_fact x.1)).broken) told)
          ∙ sym (ap (λ ts. noted c.args.line l.findings.items (factors_in s ts).broken) here) ∙ l.invariant.noted;
    }

pub add_factors-returns-clause-value : goal.add_factors-returns-clause-value
add_factors-returns-clause-value t c =
    sym (ap (λ ts. map plain_factor c.loop-fact.factors.items ++ (factors_in c.args.self.now ts).value) (facts_end c.args.facts.now c.loop-fact.fact-index c.loop-fact-test.false) ∙ append-nil _)
    ∙ c.loop-fact.invariant.value

pub add_factors-returns-clause-noted : goal.add_factors-returns-clause-noted
add_factors-returns-clause-noted t c =
    sym (ap (λ ts. noted c.args.line c.loop-fact.findings.items (factors_in c.args.self.now ts).broken) (facts_end c.args.facts.now c.loop-fact.fact-index c.loop-fact-test.false))
    ∙ c.loop-fact.invariant.noted

pub add_parts-loop-term-preserved : goal.add_parts-loop-term-preserved
add_parts-loop-term-preserved t c =
    let s = c.args.self.now in
    let xs = c.args.terms.now in
    let l = c.loop-term in
    let i = l.term-index in
    let x = c.term-item.result in
    let here = term_step xs i x c.loop-term-test.true c.term-item.is in
    let told = c.is_subtracted.ensures in record {
      value = pushed plain_part l.parts.items c.push.new.self.items c.in_ok-part.field-0 _ (parts_in s (terms_from xs (i + 1))).value _ c.in_ok-push.ensures.items
          (c.in_ok-part.ensures.value ∙ ap (λ b. (part_of s b (plain_term x.1)).value) told)
          (sym (ap (λ ts. map plain_part l.parts.items ++ (parts_in s ts).value) here) ∙ l.invariant.value);
      noted = ap (λ fs. noted c.args.line fs (parts_in s (terms_from xs (i + 1))).broken)
          (c.in_ok-part.ensures.noted ∙ ap (λ b. noted c.args.line l.findings.items (part_of s b (plain_term x.1)).broken) told)
          ∙ sym (ap (λ ts. noted c.args.line l.findings.items (parts_in s ts).broken) here) ∙ l.invariant.noted;
    }

pub add_parts-returns-clause-value : goal.add_parts-returns-clause-value
add_parts-returns-clause-value t c =
    sym (ap (λ ts. map plain_part c.loop-term.parts.items ++ (parts_in c.args.self.now ts).value) (terms_end c.args.terms.now c.loop-term.term-index c.loop-term-test.false) ∙ append-nil _)
    ∙ c.loop-term.invariant.value

pub add_parts-returns-clause-noted : goal.add_parts-returns-clause-noted
add_parts-returns-clause-noted t c =
    sym (ap (λ ts. noted c.args.line c.loop-term.findings.items (parts_in c.args.self.now ts).broken) (terms_end c.args.terms.now c.loop-term.term-index c.loop-term-test.false))
    ∙ c.loop-term.invariant.noted

pub sum-returns-clause-noted : goal.sum-returns-clause-noted
sum-returns-clause-noted t c =
    let s = c.args.self.now in
    let e = c.args.expr.now in
    sum_noted s (plain_expr e) (plain_term (out-Expr e).first) (terms_of (map added (out-Expr e).others.items)) c.args.line _ _ _ (expr_is e) c.in_ok-part.ensures.noted
    (c.in_ok-add_parts.ensures.noted ∙ ap (λ xs. noted c.args.line c.part.new.findings.items (parts_in s (terms_of (map added xs))).broken) c.deref.ensures.value)

pub sum-returns-clause-value : goal.sum-returns-clause-value
sum-returns-clause-value t c =
    let s = c.args.self.now in
    let e = c.args.expr.now in
    c.of.ensures
    ∙ sum_value s (plain_expr e) (plain_term (out-Expr e).first) (terms_of (map added (out-Expr e).others.items)) (map plain_part c.add_parts.new.parts.items) (expr_is e)
    (first_and_others plain_part c.new-parts.result.items c.push.new.self.items c.add_parts.new.parts.items c.in_ok-part.field-0 _ _ _ c.new-parts.ensures.items c.in_ok-push.ensures.items
    c.in_ok-part.ensures.value c.in_ok-add_parts.ensures.value (ap (λ xs. (parts_in s (terms_of (map added xs))).value) c.deref.ensures.value))

pub part-returns-clause-value : goal.part-returns-clause-value
part-returns-clause-value t c =
    let s = c.args.self.now in
    let x = c.args.term.now in
    c.of.ensures
    ∙ part_value s c.args.minus (plain_term x) (plain_fact (out-Term x).first) (facts_of (map multiplied (out-Term x).others.items)) (map plain_factor c.add_factors.new.factors.items) (term_is x)
    (first_and_others plain_factor c.new-factors.result.items c.push.new.self.items c.add_factors.new.factors.items c.in_ok-factor.field-0 _ _ _ c.new-factors.ensures.items c.in_ok-push.ensures.items
    c.in_ok-factor.ensures.value c.in_ok-add_factors.ensures.value (ap (λ xs. (factors_in s (facts_of (map multiplied xs))).value) c.deref.ensures.value))

pub part-returns-clause-noted : goal.part-returns-clause-noted
part-returns-clause-noted t c =
    let s = c.args.self.now in
    let x = c.args.term.now in
    part_noted s c.args.minus (plain_term x) (plain_fact (out-Term x).first) (facts_of (map multiplied (out-Term x).others.items)) c.args.line _ _ _ (term_is x) c.in_ok-factor.ensures.noted
    (c.in_ok-add_factors.ensures.noted ∙ ap (λ xs. noted c.args.line c.factor.new.findings.items (factors_in s (facts_of (map multiplied xs))).broken) c.deref.ensures.value)
