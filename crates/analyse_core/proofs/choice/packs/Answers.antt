use Rattle.std.proofs.Common.{◌≡◌, ◌≤◌, ◌∙◌, length, true}
use Rattle.std.proofs.lemmas.Result.{IfOk-weaker}
use Rattle.cob_program.specs.ActView.{plain_program}
use Rattle.cert_text.specs.Allowed.{packs_fit}
use Rattle.analyse_core.specs.Choice.{numbers_of, packs_of}
use Rattle.analyse_core.proofs.Fitting.{cells_are, few_packs, fit_packs}
use Rattle.analyse_core.proofs.choice.packs.Goals as goal

pub packs_of-requires-clause-cells : goal.packs_of-requires-clause-cells
packs_of-requires-clause-cells c = c.get.ensures ∙ cells_are (plain_program c.args.program.now) c.args.graph.now c.requires.source

pub returns-clause-few : goal.returns-clause-few
returns-clause-few c =
    let p = plain_program c.args.program.now in
    IfOk-weaker c.packs_of.result (λ packs. numbers_of packs.items ≡ packs_of p) (λ packs. length packs.items ≤ 32)
    (λ packs is. few_packs p c.args.graph.now c.requires.source packs.items is) c.packs_of.ensures

pub returns-clause-fit : goal.returns-clause-fit
returns-clause-fit c =
    let p = plain_program c.args.program.now in
    IfOk-weaker c.packs_of.result (λ packs. numbers_of packs.items ≡ packs_of p)
    (λ packs. packs_fit (length c.args.graph.now.cells) (numbers_of packs.items) ≡ true)
    (λ packs is. fit_packs p c.args.graph.now c.requires.source packs.items is) c.packs_of.ensures
