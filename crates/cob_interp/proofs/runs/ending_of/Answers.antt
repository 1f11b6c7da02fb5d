use Rattle.std.proofs.Common.{◌≡◌, Result, Err, sym, ap, subst, ◌∙◌}
use Rattle.cob_interp.specs.declared.ends.Ended.{Ended}
use Rattle.cob_interp.specs.declared.walk.Halt.{Halt}
use Rattle.cob_interp.specs.declared.walk.Halt.TheVariants as halt
use Rattle.cob_interp.specs.Setting.{paths_of}
use Rattle.cob_interp.specs.Tracking.{AreLeft}
use Rattle.cob_interp.specs.Walking.{as_result}
use Rattle.cob_interp.proofs.Written.{written_placed, left_own}
use Rattle.cob_interp.proofs.runs.ending_of.Goals as goal

pub finish-requires-clause-written : goal.finish-requires-clause-written
finish-requires-clause-written g c =
    written_placed (paths_of c.args.setting.now) (g.F.Files.state c.args.files.now) c.args.handles.now
    c.args.world.now.world.files
    (subst (λ (h : Result Ended Halt). AreLeft (paths_of c.args.setting.now) (g.F.Files.state c.args.files.now)
    c.args.handles.now c.args.world.now.world.files (as_result h)) c.in-Ok.is c.requires.placed)

pub finish-requires-else-is_refused-clause-written : goal.finish-requires-else-is_refused-clause-written
finish-requires-else-is_refused-clause-written g c =
    let e : c.in-Err-End.field-0 ≡ halt.End c.in-Err-End.end = rw c.in-Err-End.is at c.in-Err-End.field-0-is in
    left_own (paths_of c.args.setting.now) (g.F.Files.state c.args.files.now) c.args.handles.now
    c.args.world.now.world.files c.args.halted c.in-Err-End.end
    (c.in-Err-End.is ∙ ap (λ (x : Halt). Err x) e) (sym c.is_refused.ensures ∙ c.if-is_refused.false) c.requires.placed

pub finish-requires-clause-purposes : goal.finish-requires-clause-purposes
finish-requires-clause-purposes g c =
    (subst (λ (h : Result Ended Halt). AreLeft (paths_of c.args.setting.now) (g.F.Files.state c.args.files.now)
    c.args.handles.now c.args.world.now.world.files (as_result h)) c.in-Ok.is c.requires.placed).purposes
