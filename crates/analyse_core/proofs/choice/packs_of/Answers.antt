use Rattle.std.proofs.Common.{◌≡◌, ◌∙◌, refl, sym, ap}
use Rattle.std.proofs.lemmas.Result.{IfOk-weaker}
use Rattle.cob_program.specs.ActView.{plain_program, plain_paras}
use Rattle.analyse_core.specs.Mentions.{lists_of, texts_of}
use Rattle.analyse_core.specs.Choice.{all_loops, numbers_of, packs_of}
use Rattle.analyse_core.proofs.Chosen.{packs_are}
use Rattle.analyse_core.proofs.choice.packs_of.Goals as goal

pub returns : goal.returns
returns c =
    let p = plain_program c.args.program.now in
    let paras = ap plain_paras c.get-paras.ensures in
    let first = ap lists_of c.as_slice.ensures.value in
    let last = ap lists_of c.as_slice-3.ensures.value in
    let texts = last ∙ c.in_ok-texts.ensures ∙ ap texts_of paras in
    let loops =
    ap lists_of c.as_slice-2.ensures.value ∙ c.in_ok-loops.ensures
    ∙ ap (all_loops _ 0) paras
    ∙ ap (λ ts. all_loops ts 0 p.paras) (first ∙ sym last) in
    IfOk-weaker c.noted.result _ (λ packs. numbers_of packs.items ≡ packs_of p)
    (λ packs is. packs_are p _ _ _ (numbers_of packs.items) texts loops refl is) c.noted.ensures
