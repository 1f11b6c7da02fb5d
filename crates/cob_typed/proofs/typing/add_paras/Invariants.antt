use Rattle.std.proofs.Common.{◌≡◌, ◌++◌, map, drop}
use Rattle.cob_tree.specs.StmtView.{plain_paragraph}
use Rattle.cob_program.specs.ActView.{plain_para}
use Rattle.cob_typed.specs.Lists.{found_behind}
use Rattle.cob_typed.specs.Typing.{typed_paras}
use Rattle.cob_typed.proofs.typing.add_paras.Given as goal

abbrev pub invariant-loop-paragraph : goal.invariant-loop-paragraph
invariant-loop-paragraph l = record {
  value : map plain_para l.paras.items ++ (typed_paras l.scope l.next (map plain_paragraph (drop l.paragraph-index l.paragraphs))).value ≡ map plain_para l.initial.paras.items ++ (typed_paras l.scope l.initial.next (map plain_paragraph l.paragraphs)).value;
  next : (typed_paras l.scope l.next (map plain_paragraph (drop l.paragraph-index l.paragraphs))).next ≡ (typed_paras l.scope l.initial.next (map plain_paragraph l.paragraphs)).next;
  found : found_behind l.findings.items (typed_paras l.scope l.next (map plain_paragraph (drop l.paragraph-index l.paragraphs))).found ≡ found_behind l.initial.findings.items (typed_paras l.scope l.initial.next (map plain_paragraph l.paragraphs)).found;
}
