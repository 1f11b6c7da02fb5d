use Rattle.std.proofs.Common.{◌∙◌, ◌+◌, sym, ap, map, drop}
use Rattle.std.proofs.lemmas.List.{drop_all}
use Rattle.cob_tree.specs.StmtView.{plain_sentence}
use Rattle.cob_program.specs.Act.{stmts_of}
use Rattle.cob_program.specs.ActView.{plain_stmt}
use Rattle.cob_typed.specs.Lists.{found_behind}
use Rattle.cob_typed.specs.Typing.{joined, typed_sentences}
use Rattle.cob_program.proofs.Loops.{item_step}
use Rattle.cob_typed.proofs.ListLemmas.{sentence_value, sentence_next, sentence_found, joined_none}
use Rattle.cob_typed.proofs.typing.typed_sentences.Goals as goal

pub loop-sentence-preserved : goal.loop-sentence-preserved
loop-sentence-preserved c =
    let s = c.args.scope.now in
    let l = c.loop-sentence in
    let i = l.sentence-index in
    let x = c.sentence-item.result in
    let old = stmts_of (map plain_stmt l.typed.items) in
    let new = stmts_of (map plain_stmt c.add_sentence.new.typed.items) in
    let told = c.in_ok-add_sentence.ensures in
    let here = ap (map plain_sentence) (item_step c.args.sentences.now i x c.loop-sentence-test.true c.sentence-item.is) in
    let rest = map plain_sentence (drop (i + 1) c.args.sentences.now) in record {
      value = sentence_value s l.next c.add_sentence.new.next (plain_sentence x) rest old new _ told.next told.value (sym (ap (λ ys. joined old (typed_sentences s l.next ys).value) here) ∙ l.invariant.value);
      next = sentence_next s l.next c.add_sentence.new.next _ (plain_sentence x) rest told.next (sym (ap (λ ys. (typed_sentences s l.next ys).next) here) ∙ l.invariant.next);
      found = sentence_found s l.next c.add_sentence.new.next (plain_sentence x) rest l.findings.items c.add_sentence.new.findings.items _ told.next told.found
          (sym (ap (λ ys. found_behind l.findings.items (typed_sentences s l.next ys).found) here) ∙ l.invariant.found);
    }

pub returns-clause-value : goal.returns-clause-value
returns-clause-value c =
    let l = c.loop-sentence in
    let old = stmts_of (map plain_stmt l.typed.items) in
    sym (ap (λ ys. joined old (typed_sentences c.args.scope.now l.next (map plain_sentence ys)).value) (drop_all l.sentence-index c.args.sentences.now c.loop-sentence-test.false) ∙ joined_none old) ∙ l.invariant.value

pub returns-clause-next : goal.returns-clause-next
returns-clause-next c =
    let l = c.loop-sentence in
    sym (ap (λ ys. (typed_sentences c.args.scope.now l.next (map plain_sentence ys)).next) (drop_all l.sentence-index c.args.sentences.now c.loop-sentence-test.false)) ∙ l.invariant.next

pub returns-clause-found : goal.returns-clause-found
returns-clause-found c =
    let l = c.loop-sentence in
    sym (ap (λ ys. found_behind l.findings.items (typed_sentences c.args.scope.now l.next (map plain_sentence ys)).found) (drop_all l.sentence-index c.args.sentences.now c.loop-sentence-test.false)) ∙ l.invariant.found
