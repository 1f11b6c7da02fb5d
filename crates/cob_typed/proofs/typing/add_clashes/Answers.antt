use Rattle.std.proofs.Common.{◌∷◌, ◌∙◌, ◌+◌, [], not, if◌then◌else◌, sym, ap, map, take, drop}
use Rattle.cob_data.specs.declared.end.Rule.TheVariants.{Q11}
use Rattle.cob_tree.specs.StmtView.{plain_paragraph}
use Rattle.cob_typed.specs.Lists.{found_behind}
use Rattle.cob_typed.specs.Typing.{clashes, is_known}
use Rattle.cob_typed.proofs.FoundLemmas.{found_append}
use Rattle.cob_typed.proofs.ParaLemmas.{known_behind, known_step, clash_step, clash_found, inserted}
use Rattle.cob_typed.proofs.typing.add_clashes.Goals as goal

pub loop-paragraph-preserved : goal.loop-paragraph-preserved
loop-paragraph-preserved c =
    let l = c.loop-paragraph in
    let i = l.paragraph-index in
    let ps = c.args.paragraphs.now in
    let x = c.paragraph-item.result in
    let before = known_behind [] (take i ps) in
    let rest = map plain_paragraph (drop (i + 1) ps) in
    let more = known_step ps i x c.loop-paragraph-test.true c.paragraph-item.is in
    let stood = l.invariant.keys c.get.result.now ∙ ap (λ n. is_known n before) c.get.ensures in record {
      keys = λ text. inserted l.known.keys c.insert.new.self.keys c.get.result before c.in_ok-is_new.ensures.keys l.invariant.keys text ∙ ap (is_known text) (ap (λ n. n ∷ before) c.get.ensures ∙ sym more);
      found = ap (λ ns. found_behind c.demand.new.findings.items (clashes ns rest)) more
          ∙ ap (λ fs. found_behind fs (clashes (x.name ∷ before) rest)) (c.in_ok-demand.ensures ∙ clash_found x.line l.findings.items c.in_ok-is_new.is_new (is_known x.name before) (c.in_ok-is_new.ensures.added ∙ ap not stood))
          ∙ sym (ap (found_behind l.findings.items) (clash_step before ps i x c.loop-paragraph-test.true c.paragraph-item.is) ∙ found_append l.findings.items (if is_known x.name before then (Q11, x.line) ∷ [] else []) (clashes (x.name ∷ before) rest)) ∙ l.invariant.found;
    }
