use Rattle.std.proofs.Common.{◌≡◌, ℕ, List, [], take, drop, map, bytes_eq}
use Rattle.std.specs.List.{list_any}
use Rattle.cob_tree.specs.StmtView.{plain_paragraph}
use Rattle.cob_typed.specs.Lists.{found_behind}
use Rattle.cob_typed.specs.Typing.{clashes, is_known}
use Rattle.cob_typed.proofs.ParaLemmas.{known_behind}
use Rattle.cob_typed.proofs.typing.add_clashes.Given as goal

abbrev pub invariant-loop-paragraph : goal.invariant-loop-paragraph
invariant-loop-paragraph l = record {
  keys : (text : List ℕ) → list_any (λ k. bytes_eq text k.now) l.known.keys ≡ is_known text (known_behind [] (take l.paragraph-index l.paragraphs));
  found : found_behind l.findings.items (clashes (known_behind [] (take l.paragraph-index l.paragraphs)) (map plain_paragraph (drop l.paragraph-index l.paragraphs))) ≡ found_behind l.initial.findings.items (clashes [] (map plain_paragraph l.paragraphs));
}
