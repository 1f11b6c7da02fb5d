use Rattle.std.proofs.lemmas.Result.{err_from_is_err_and}
use Rattle.cob_interp.proofs.ReadParts.{rest_part}
use Rattle.std.proofs.Common.{◌≡◌, false, refl}
use Rattle.cob_interp.proofs.Failing.{failed_any, never_fails, never_still, part_fine}
use Rattle.cob_interp.proofs.FitLemmas.{part_on}
use Rattle.cob_interp.proofs.reads.do_window.Goals as goal

pub returns-in_err-window-clause-reads : goal.returns-in_err-window-clause-reads
returns-in_err-window-clause-reads g c =
    let p = err_from_is_err_and c.from_residual.result c.from_residual.ensures.1 in
    rw (p.1, p.2)
    (rest_part c.args.setting.now c.args.place.now c.args.step _ _ c.args.handles.now c.args.file
    c.size_at-size.result c.args.before c.args.world.now.world c.size_at-size.ensures _ c.in_err-window.ensures.gives)

pub returns-in_err-window-clause-fault : goal.returns-in_err-window-clause-fault
returns-in_err-window-clause-fault g c =
    let p = err_from_is_err_and c.from_residual.result c.from_residual.ensures.1 in
    rw (p.1, p.2) c.in_err-window.ensures.fault

pub returns-in_err-window-clause-still : goal.returns-in_err-window-clause-still
returns-in_err-window-clause-still g c =
    failed_any _ (c.args.world.now.world ≡ c.args.world.now.world) refl

pub returns-clause-fault : goal.returns-clause-fault
returns-clause-fault g c =
    never_fails false _
    (part_fine c.args.setting.now c.args.place.now c.args.step _ _ _ c.do_part-next.ensures.does)

pub returns-clause-still : goal.returns-clause-still
returns-clause-still g c =
    never_still _ _
    (part_fine c.args.setting.now c.args.place.now c.args.step _ _ _ c.do_part-next.ensures.does)

pub returns-clause-on : goal.returns-clause-on
returns-clause-on g c = part_on c.args.setting.now c.args.place.now c.args.step _ _ _ c.do_part-next.ensures.does
