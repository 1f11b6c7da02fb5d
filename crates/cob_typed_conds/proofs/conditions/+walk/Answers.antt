use Rattle.std.proofs.Common.{◌++◌, ◌∙◌, ◌+◌, ap, sym, map, option_map}
use Rattle.std.proofs.lemmas.List.{append-nil}
use Rattle.cob_tree.specs.declared.cond.Cond.{out-Cond}
use Rattle.cob_tree.specs.declared.cond.Conj.{out-Conj}
use Rattle.cob_tree.specs.declared.cond.Simple.TheFolds.{fold_out-Cond, fold_out-Conj}
use Rattle.cob_tree.specs.Cond.{conjs_of, negs_of}
use Rattle.cob_tree.specs.CondView.{plain_cond, plain_conj, plain_neg}
use Rattle.cob_program.specs.LogicView.{plain_logic}
use Rattle.cob_typed_exprs.specs.Judged.{noted}
use Rattle.cob_typed_conds.specs.Operands.{plain_carry}
use Rattle.cob_typed_conds.specs.Conditions.{walk_conj, walk_conjs, walk_neg, walk_negs}
use Rattle.cob_typed_exprs.proofs.Loops.{pushed}
use Rattle.cob_typed_conds.proofs.Walks.{conjs_from, negs_from, conj_step, neg_step, conjs_end, negs_end, first_and_others, cond_value, cond_noted, conj_value, conj_carry, conj_noted}
use Rattle.cob_typed_conds.proofs.conditions.+walk.Goals as goal

pub add_conjs-loop-conj-preserved : goal.add_conjs-loop-conj-preserved
add_conjs-loop-conj-preserved t c =
    let s = c.args.scope.now in
    let xs = c.args.conjs.now in
    let l = c.loop-conj in
    let i = l.conj-index in
    let x = c.conj-item.result in
    let before = option_map plain_carry l.carry in
    let here = conj_step xs i x c.loop-conj-test.true c.conj-item.is in
    let told = c.in_ok-logic.ensures in
    let behind = (walk_conj s before (plain_conj x)).carry in
    let rest = conjs_from xs (i + 1) in record {
      value = ap (λ k. map plain_logic c.push.new.self.items ++ (walk_conjs s k rest).logics.value) told.carry
          ∙ pushed plain_logic l.parts.items c.push.new.self.items c.in_ok-logic.logic _ (walk_conjs s behind rest).logics.value _ c.in_ok-push.ensures.items told.value
          (sym (ap (λ ts. map plain_logic l.parts.items ++ (walk_conjs s before ts).logics.value) here) ∙ l.invariant.value);
      noted = ap (λ k. noted c.args.line c.walk_conj.new.findings.items (walk_conjs s k rest).logics.broken) told.carry
          ∙ ap (λ fs. noted c.args.line fs (walk_conjs s behind rest).logics.broken) told.noted
          ∙ sym (ap (λ ts. noted c.args.line l.findings.items (walk_conjs s before ts).logics.broken) here) ∙ l.invariant.noted;
    }

pub add_conjs-returns-clause-value : goal.add_conjs-returns-clause-value
add_conjs-returns-clause-value t c =
    let l = c.loop-conj in
    sym (ap (λ ts. map plain_logic l.parts.items ++ (walk_conjs c.args.scope.now (option_map plain_carry l.carry) ts).logics.value) (conjs_end c.args.conjs.now l.conj-index c.loop-conj-test.false) ∙ append-nil _)
    ∙ l.invariant.value

pub add_conjs-returns-clause-noted : goal.add_conjs-returns-clause-noted
add_conjs-returns-clause-noted t c =
    let l = c.loop-conj in
    sym (ap (λ ts. noted c.args.line l.findings.items (walk_conjs c.args.scope.now (option_map plain_carry l.carry) ts).logics.broken) (conjs_end c.args.conjs.now l.conj-index c.loop-conj-test.false))
    ∙ l.invariant.noted

pub add_negs-loop-neg-preserved : goal.add_negs-loop-neg-preserved
add_negs-loop-neg-preserved t c =
    let s = c.args.scope.now in
    let xs = c.args.negs.now in
    let l = c.loop-neg in
    let i = l.neg-index in
    let x = c.neg-item.result in
    let before = option_map plain_carry l.carry in
    let here = neg_step xs i x c.loop-neg-test.true c.neg-item.is in
    let told = c.in_ok-logic.ensures in
    let behind = (walk_neg s before (plain_neg x)).carry in
    let rest = negs_from xs (i + 1) in record {
      value = ap (λ k. map plain_logic c.push.new.self.items ++ (walk_negs s k rest).logics.value) told.carry
          ∙ pushed plain_logic l.parts.items c.push.new.self.items c.in_ok-logic.logic _ (walk_negs s behind rest).logics.value _ c.in_ok-push.ensures.items told.value
          (sym (ap (λ ts. map plain_logic l.parts.items ++ (walk_negs s before ts).logics.value) here) ∙ l.invariant.value);
      carry = ap (λ k. (walk_negs s k rest).carry) told.carry ∙ sym (ap (λ ts. (walk_negs s before ts).carry) here) ∙ l.invariant.carry;
      noted = ap (λ k. noted c.args.line c.walk_neg.new.findings.items (walk_negs s k rest).logics.broken) told.carry
          ∙ ap (λ fs. noted c.args.line fs (walk_negs s behind rest).logics.broken) told.noted
          ∙ sym (ap (λ ts. noted c.args.line l.findings.items (walk_negs s before ts).logics.broken) here) ∙ l.invariant.noted;
    }

pub add_negs-returns-clause-value : goal.add_negs-returns-clause-value
add_negs-returns-clause-value t c =
    let l = c.loop-neg in
    sym (ap (λ ts. map plain_logic l.parts.items ++ (walk_negs c.args.scope.now (option_map plain_carry l.carry) ts).logics.value) (negs_end c.args.negs.now l.neg-index c.loop-neg-test.false) ∙ append-nil _)
    ∙ l.invariant.value

pub add_negs-returns-clause-noted : goal.add_negs-returns-clause-noted
add_negs-returns-clause-noted t c =
    let l = c.loop-neg in
    sym (ap (λ ts. noted c.args.line l.findings.items (walk_negs c.args.scope.now (option_map plain_carry l.carry) ts).logics.broken) (negs_end c.args.negs.now l.neg-index c.loop-neg-test.false))
    ∙ l.invariant.noted

pub add_negs-returns-clause-carry : goal.add_negs-returns-clause-carry
add_negs-returns-clause-carry t c =
    let l = c.loop-neg in
    sym (ap (λ ts. (walk_negs c.args.scope.now (option_map plain_carry l.carry) ts).carry) (negs_end c.args.negs.now l.neg-index c.loop-neg-test.false))
    ∙ l.invariant.carry

pub condition-returns-clause-value : goal.condition-returns-clause-value
condition-returns-clause-value t c =
    let s = c.args.scope.now in
    let d = c.args.cond.now in
    c.any_or_one.ensures
    ∙ cond_value s (plain_cond d) (plain_conj (out-Cond d).first) (conjs_of (map plain_conj (out-Cond d).others.items)) (fold_out-Cond _ _ _ _ _ _ _ _ d) _ c.in_ok-first.ensures.carry (map plain_logic c.add_conjs.new.parts.items)
    (first_and_others c.new-parts.result.items c.push.new.self.items c.add_conjs.new.parts.items c.in_ok-first.first _ _ _ c.new-parts.ensures.items c.in_ok-push.ensures.items
    c.in_ok-first.ensures.value c.in_ok-add_conjs.ensures.value (ap (λ xs. (walk_conjs s (option_map plain_carry c.in_ok-first.behind) (conjs_of (map plain_conj xs))).logics.value) c.deref.ensures.value))

pub condition-returns-clause-noted : goal.condition-returns-clause-noted
condition-returns-clause-noted t c =
    let s = c.args.scope.now in
    let d = c.args.cond.now in
    cond_noted s (plain_cond d) (plain_conj (out-Cond d).first) (conjs_of (map plain_conj (out-Cond d).others.items)) (fold_out-Cond _ _ _ _ _ _ _ _ d) _ c.in_ok-first.ensures.carry c.args.line _ _ _
    c.in_ok-first.ensures.noted
    (c.in_ok-add_conjs.ensures.noted
    ∙ ap (λ xs. noted c.args.line c.walk_conj.new.findings.items (walk_conjs s (option_map plain_carry c.in_ok-first.behind) (conjs_of (map plain_conj xs))).logics.broken) c.deref.ensures.value)

pub walk_conj-returns-clause-value : goal.walk_conj-returns-clause-value
walk_conj-returns-clause-value t c =
    let s = c.args.scope.now in
    let d = c.args.conj.now in
    c.all_or_one.ensures
    ∙ conj_value s (option_map plain_carry c.args.before) (plain_conj d) (plain_neg (out-Conj d).first) (negs_of (map plain_neg (out-Conj d).others.items)) (fold_out-Conj _ _ _ _ _ _ _ _ d) _ c.in_ok-first.ensures.carry (map plain_logic c.add_negs.new.parts.items)
    (first_and_others c.new-parts.result.items c.push.new.self.items c.add_negs.new.parts.items c.in_ok-first.first _ _ _ c.new-parts.ensures.items c.in_ok-push.ensures.items
    c.in_ok-first.ensures.value c.in_ok-last.ensures.value (ap (λ xs. (walk_negs s (option_map plain_carry c.in_ok-first.behind) (negs_of (map plain_neg xs))).logics.value) c.deref.ensures.value))

pub walk_conj-returns-clause-carry : goal.walk_conj-returns-clause-carry
walk_conj-returns-clause-carry t c =
    let s = c.args.scope.now in
    let d = c.args.conj.now in
    conj_carry s (option_map plain_carry c.args.before) (plain_conj d) (plain_neg (out-Conj d).first) (negs_of (map plain_neg (out-Conj d).others.items)) (fold_out-Conj _ _ _ _ _ _ _ _ d) _ c.in_ok-first.ensures.carry _
    (c.in_ok-last.ensures.carry ∙ ap (λ xs. (walk_negs s (option_map plain_carry c.in_ok-first.behind) (negs_of (map plain_neg xs))).carry) c.deref.ensures.value)

pub walk_conj-returns-clause-noted : goal.walk_conj-returns-clause-noted
walk_conj-returns-clause-noted t c =
    let s = c.args.scope.now in
    let d = c.args.conj.now in
    conj_noted s (option_map plain_carry c.args.before) (plain_conj d) (plain_neg (out-Conj d).first) (negs_of (map plain_neg (out-Conj d).others.items)) (fold_out-Conj _ _ _ _ _ _ _ _ d) _ c.in_ok-first.ensures.carry c.args.line _ _ _
    c.in_ok-first.ensures.noted
    (c.in_ok-last.ensures.noted
    ∙ ap (λ xs. noted c.args.line c.walk_neg.new.findings.items (walk_negs s (option_map plain_carry c.in_ok-first.behind) (negs_of (map plain_neg xs))).logics.broken) c.deref.ensures.value)
