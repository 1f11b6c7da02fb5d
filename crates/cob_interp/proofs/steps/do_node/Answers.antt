use Rattle.cob_interp.proofs.FitLemmas.{node_plain, on_by}
use Rattle.cob_interp.proofs.steps.do_node.Goals as goal

pub do_plain-requires-clause-plain : goal.do_plain-requires-clause-plain
do_plain-requires-clause-plain c =
    node_plain c.args.setting.now c.args.node c.place-place.result c.place-place.ensures.is c.place-place.ensures.fits
    c.args.statement c.requires.within c.requires.goes c.requires.uncalled

pub returns-clause-leads : goal.returns-clause-leads
returns-clause-leads c = λ now budget. c.do_plain.ensures.leads now c.args.node budget c.place-place.ensures.is

pub returns-clause-on : goal.returns-clause-on
returns-clause-on c =
    on_by c.args.setting.now c.args.node c.place-place.result c.place-place.ensures.is c.place-place.ensures.fits
    c.args.statement _ c.requires.within c.do_plain.ensures.on
