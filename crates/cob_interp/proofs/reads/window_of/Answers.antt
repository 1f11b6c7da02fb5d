use Rattle.std.proofs.Common.{List, ℕ, refl, sym, subst, ◌∙◌, arith}
use Rattle.std.proofs.lemmas.Result.{err_from_is_err_and}
use Rattle.cob_interp.specs.Readying.{GivesWindow}
use Rattle.cob_interp.proofs.Windows.{window_full, window_none, window_refused, window_rest}
use Rattle.cob_interp.proofs.reads.window_of.Goals as goal

pub returns-in_err-room-clause-gives : goal.returns-in_err-room-clause-gives
returns-in_err-room-clause-gives g c =
    let p = err_from_is_err_and c.from_residual.result c.from_residual.ensures.1 in
    rw (p.1, p.2)
    (window_refused _ _ c.args.handles.now c.args.file c.args.size c.args.before _ c.in_err-room.ensures.gives)

pub returns-in_err-room-clause-fault : goal.returns-in_err-room-clause-fault
returns-in_err-room-clause-fault g c =
    let p = err_from_is_err_and c.from_residual.result c.from_residual.ensures.1 in
    rw (p.1, p.2) c.in_err-room.ensures.fault

pub returns-then-count-len-clause-gives : goal.returns-then-count-len-clause-gives
returns-then-count-len-clause-gives g c =
    window_full _ _ c.args.handles.now c.args.file c.args.size c.in_ok-room.room.items c.in_ok-room.count
    c.in_ok-room.ensures.gives (c.if-count-len.true ∙ c.len.ensures ∙ c.in_ok-room.room.ok.0)

pub returns-then-count-eq0-clause-gives : goal.returns-then-count-eq0-clause-gives
returns-then-count-eq0-clause-gives g c =
    subst (λ (window : List ℕ). GivesWindow (g.F.Files.state c.args.files.now) (g.F.Files.state c.next_record.new.files)
    c.args.handles.now c.args.file c.args.size window) (sym c.new.ensures.items)
    (window_none _ _ c.args.handles.now c.args.file c.args.size c.in_ok-room.room.items c.in_ok-room.count
    c.in_ok-room.ensures.gives c.if-count-eq0.true
    (λ e. c.if-count-len.false (e ∙ sym (c.len.ensures ∙ c.in_ok-room.room.ok.0))))

pub returns-in-Some-clause-gives : goal.returns-in-Some-clause-gives
returns-in-Some-clause-gives g c = (
  refl,
  window_rest _ _ c.args.handles.now c.args.file c.args.size c.in_ok-room.room.items c.in_ok-room.count
      c.in_ok-room.ensures.gives (λ e. c.if-count-len.false (e ∙ sym (c.len.ensures ∙ c.in_ok-room.room.ok.0)))
      c.if-count-eq0.false c.args.before _ (omega arith),
)
