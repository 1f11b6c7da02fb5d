use Rattle.cob_program.specs.Act.{open_files}
use Rattle.cob_interp.proofs.FitLemmas.{act_is, on_by, opens_here, turns_on}
use Rattle.cob_interp.proofs.steps.open_next.Goals as goal

pub do_open-requires-clause-its : goal.do_open-requires-clause-its
do_open-requires-clause-its g c =
    act_is c.args.setting.now c.args.node c.place-place.result c.place-place.ensures.is c.place-place.ensures.fits
    c.args.statement (open_files c.args.openings.now) c.requires.within c.requires.its

pub returns-clause-leads : goal.returns-clause-leads
returns-clause-leads g c = λ sink budget. c.do_open.ensures.leads sink c.args.node budget c.place-place.ensures.is

pub returns-clause-touches : goal.returns-clause-touches
returns-clause-touches g c = λ k opens.
    c.do_open.ensures.touches k
    (opens_here c.args.setting.now c.args.node c.place-place.result c.place-place.ensures.is c.place-place.ensures.fits k
    opens)

pub returns-clause-met : goal.returns-clause-met
returns-clause-met g c = λ k opens.
    c.do_open.ensures.met k
    (opens_here c.args.setting.now c.args.node c.place-place.result c.place-place.ensures.is c.place-place.ensures.fits k
    opens)

pub returns-clause-turn : goal.returns-clause-turn
returns-clause-turn g c =
    turns_on c.args.setting.now c.args.node c.place-place.result c.place-place.ensures.is c.place-place.ensures.fits
    c.requires.ready _ c.do_open.ensures.way

pub returns-clause-on : goal.returns-clause-on
returns-clause-on g c =
    on_by c.args.setting.now c.args.node c.place-place.result c.place-place.ensures.is c.place-place.ensures.fits
    c.args.statement _ c.requires.within c.do_open.ensures.on
