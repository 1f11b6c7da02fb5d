use Rattle.std.proofs.Common.{◌∙◌, [], ap, map, rules}
use Rattle.cob_tree.specs.StmtView.{plain_paragraph}
use Rattle.cob_typed.specs.Lists.{found_behind}
use Rattle.cob_typed.specs.Typing.{clashes}
use Rattle.cob_typed.proofs.AnswerLemmas.{are_typed}
use Rattle.cob_typed.proofs.typing.typed_with.Goals as goal

pub returns : goal.returns
returns c = λ l same.
    are_typed l c.args.tree.now c.args.scope.now _ c.new-findings.result.items c.all_paras.new.findings.items c.all_paras.new.next same c.new-findings.ensures.items c.in_ok-paras.ensures.value c.in_ok-paras.ensures.next (search rules)
    c.in_ok-paras.ensures.found (c.in_ok-add_clashes.ensures ∙ ap (λ ps. found_behind c.all_paras.new.findings.items (clashes [] (map plain_paragraph ps))) c.get.ensures)
