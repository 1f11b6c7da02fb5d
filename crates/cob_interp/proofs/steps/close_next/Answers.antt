use Rattle.cob_program.specs.Act.{close_files}
use Rattle.cob_interp.proofs.FitLemmas.{act_is, on_by}
use Rattle.cob_interp.proofs.steps.close_next.Goals as goal

pub do_close-requires-clause-its : goal.do_close-requires-clause-its
do_close-requires-clause-its g c =
    act_is c.args.setting.now c.args.node c.place-place.result c.place-place.ensures.is c.place-place.ensures.fits
    c.args.statement (close_files c.args.closed.now) c.requires.within c.requires.its

pub returns-clause-leads : goal.returns-clause-leads
returns-clause-leads g c = λ sink budget. c.do_close.ensures.leads sink c.args.node budget c.place-place.ensures.is

pub returns-clause-on : goal.returns-clause-on
returns-clause-on g c =
    on_by c.args.setting.now c.args.node c.place-place.result c.place-place.ensures.is c.place-place.ensures.fits
    c.args.statement _ c.requires.within c.do_close.ensures.on
