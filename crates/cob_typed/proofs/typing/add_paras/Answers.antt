use Rattle.std.proofs.Common.{◌∙◌, ◌+◌, ◌++◌, append-nil, sym, ap, map, drop}
use Rattle.std.proofs.lemmas.List.{drop_all}
use Rattle.cob_tree.specs.StmtView.{plain_paragraph}
use Rattle.cob_program.specs.ActView.{plain_para}
use Rattle.cob_typed.specs.Lists.{found_behind}
use Rattle.cob_typed.specs.Typing.{typed_paras}
use Rattle.cob_program.proofs.Loops.{item_step}
use Rattle.cob_typed_exprs.proofs.EachLemmas.{map_more}
use Rattle.cob_typed.proofs.ListLemmas.{para_value, para_next, para_found}
use Rattle.cob_typed.proofs.typing.add_paras.Goals as goal

pub loop-paragraph-preserved : goal.loop-paragraph-preserved
loop-paragraph-preserved c =
    let s = c.args.scope.now in
    let l = c.loop-paragraph in
    let i = l.paragraph-index in
    let x = c.paragraph-item.result in
    let made = c.in_ok-typed_para.field-0 in
    let told = c.in_ok-typed_para.ensures in
    let here = ap (map plain_paragraph) (item_step c.args.paragraphs.now i x c.loop-paragraph-test.true c.paragraph-item.is) in
    let rest = map plain_paragraph (drop (i + 1) c.args.paragraphs.now) in record {
      value = para_value s l.next c.typed_para.new.next (plain_paragraph x) rest (map plain_para l.paras.items) (map plain_para c.push.new.self.items) _ (plain_para made) told.next told.value
          (map_more plain_para l.paras.items c.push.new.self.items made c.in_ok-push.ensures.items)
          (sym (ap (λ ys. map plain_para l.paras.items ++ (typed_paras s l.next ys).value) here) ∙ l.invariant.value);
      next = para_next s l.next c.typed_para.new.next _ (plain_paragraph x) rest told.next (sym (ap (λ ys. (typed_paras s l.next ys).next) here) ∙ l.invariant.next);
      found = para_found s l.next c.typed_para.new.next (plain_paragraph x) rest l.findings.items c.typed_para.new.findings.items _ told.next told.found
          (sym (ap (λ ys. found_behind l.findings.items (typed_paras s l.next ys).found) here) ∙ l.invariant.found);
    }

pub returns-clause-value : goal.returns-clause-value
returns-clause-value c =
    let l = c.loop-paragraph in
    let old = map plain_para l.paras.items in
    sym (ap (λ ys. old ++ (typed_paras c.args.scope.now l.next (map plain_paragraph ys)).value) (drop_all l.paragraph-index c.args.paragraphs.now c.loop-paragraph-test.false) ∙ append-nil old) ∙ l.invariant.value

pub returns-clause-next : goal.returns-clause-next
returns-clause-next c =
    let l = c.loop-paragraph in
    sym (ap (λ ys. (typed_paras c.args.scope.now l.next (map plain_paragraph ys)).next) (drop_all l.paragraph-index c.args.paragraphs.now c.loop-paragraph-test.false)) ∙ l.invariant.next

pub returns-clause-found : goal.returns-clause-found
returns-clause-found c =
    let l = c.loop-paragraph in
    sym (ap (λ ys. found_behind l.findings.items (typed_paras c.args.scope.now l.next (map plain_paragraph ys)).found) (drop_all l.paragraph-index c.args.paragraphs.now c.loop-paragraph-test.false)) ∙ l.invariant.found
