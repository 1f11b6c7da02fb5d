use Rattle.std.proofs.Common.{◌∙◌, sym, ap, map}
use Rattle.cob_tree.specs.StmtView.{plain_sel}
use Rattle.cob_program.specs.LogicView.{plain_logic}
use Rattle.cob_typed_exprs.specs.Judged.{each_of, noted}
use Rattle.cob_typed_conds.specs.Selections.{selection}
use Rattle.cob_typed_exprs.proofs.EachLemmas.{each_value, each_noted, each_value_end, each_noted_end, map_more, map_same, each_map}
use Rattle.cob_typed.proofs.statements.choices.Goals as goal

pub loop-choice-preserved : goal.loop-choice-preserved
loop-choice-preserved c =
    let l = c.loop-choice in
    let x = c.choice-item.result in
    let made = c.in_ok-selection.field-0 in record {
      value = each_value (λ y. selection c.args.scope.now c.args.looked (plain_sel y)) c.args.choices.now (λ y. y) l.choice-index x (map plain_logic l.tests.items) (map plain_logic c.push.new.self.items) _ (plain_logic made)
          c.loop-choice-test.true c.choice-item.is c.in_ok-selection.ensures.value (map_more plain_logic l.tests.items c.push.new.self.items made c.in_ok-push.ensures.items) l.invariant.value;
      noted = each_noted (λ y. selection c.args.scope.now c.args.looked (plain_sel y)) c.args.choices.now l.choice-index c.args.line x l.findings.items c.selection.new.findings.items _ c.loop-choice-test.true c.choice-item.is c.in_ok-selection.ensures.noted l.invariant.noted;
    }

pub returns-clause-value : goal.returns-clause-value
returns-clause-value c =
    let l = c.loop-choice in
    each_value_end (λ y. selection c.args.scope.now c.args.looked (plain_sel y)) c.args.choices.now (λ y. y) l.choice-index (map plain_logic l.tests.items) _ c.loop-choice-test.false l.invariant.value
    ∙ map_same (each_of (λ y. selection c.args.scope.now c.args.looked (plain_sel y)) c.args.choices.now).value
    ∙ sym (ap (λ j. j.value) (each_map plain_sel (selection c.args.scope.now c.args.looked) c.args.choices.now))

pub returns-clause-noted : goal.returns-clause-noted
returns-clause-noted c =
    let l = c.loop-choice in
    each_noted_end (λ y. selection c.args.scope.now c.args.looked (plain_sel y)) c.args.choices.now l.choice-index c.args.line l.findings.items _ c.loop-choice-test.false l.invariant.noted
    ∙ sym (ap (λ j. noted c.args.line c.args.findings.now.items j.broken) (each_map plain_sel (selection c.args.scope.now c.args.looked) c.args.choices.now))
