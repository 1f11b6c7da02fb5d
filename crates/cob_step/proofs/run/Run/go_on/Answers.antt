use Rattle.std.proofs.Common.{◌∙◌, ◌∷◌, List, sym, ap, subst}
use Rattle.cob_program.specs.ActView.{plain_program}
use Rattle.cob_runs.specs.declared.outcome.Outcome.TheVariants.{Ended, Fault}
use Rattle.cob_runs.specs.State.{State, Doing, state}
use Rattle.cob_runs.specs.Steps.{number_of, settled_state, step_on}
use Rattle.cob_step.specs.Ready.{CanDoAll}
use Rattle.cob_step.specs.Views.{plain_doing, plain_control, plain_run}
use Rattle.cob_step.proofs.Onward.{onto, step_done, step_broken}
use Rattle.cob_step.proofs.run.Run.go_on.Goals as goal

pub do_front-requires-clause-able : goal.do_front-requires-clause-able
do_front-requires-clause-able c =
    let P : List Doing → Type 0 = λ ds. CanDoAll c.args.self.now.world.program.layout ds in
    (subst P c.in-Some.ensures c.requires.ready.able).0

pub returns-in-None-clause-done : goal.returns-in-None-clause-done
returns-in-None-clause-done c =
    ap (λ ds. state c.args.self.now.world.world ds Ended) c.in-None.ensures.1
    ∙ ap (λ ds. step_on (plain_program c.args.self.now.world.program) c.args.choice.now (plain_run c.args.self.now) ds)
    (sym c.in-None.ensures.0)

pub returns-in-Ok-clause-done : goal.returns-in-Ok-clause-done
returns-in-Ok-clause-done c =
    let p = plain_program c.args.self.now.world.program in
    let s = plain_run c.args.self.now in
    let next = plain_run c.do_front.new.self in
    onto c.settle.result (plain_run c.settle.new.self) (settled_state p c.args.choice.now next)
    (step_on p c.args.choice.now s s.control)
    (sym (step_done p c.args.choice.now s (plain_doing c.in-Some.front) (plain_control c.pop.new.self) c.in-Some.ensures
    next c.in-Ok.ensures.done)) (rw c.in-Ok.ensures.kept at (c.settle.ensures.done c.args.choice.now))

pub returns-in-Err-Fault-clause-done : goal.returns-in-Err-Fault-clause-done
returns-in-Err-Fault-clause-done c =
    let p = plain_program c.args.self.now.world.program in
    let s = plain_run c.args.self.now in
    let d = plain_doing c.in-Some.front in
    let next = plain_run c.do_front.new.self in
    let met = rw c.in-Err-Fault.field-0-is at c.in-Err-Fault.ensures.done in
    let broken = Fault c.in-Err-Fault.kind (number_of d) in
    onto c.fail.result (plain_run c.fail.new.self) (state next.world (d ∷ next.control) broken)
    (step_on p c.args.choice.now s s.control)
    (ap (λ (m : State). state m.world (d ∷ m.control) broken) met.1
    ∙ sym (step_broken p c.args.choice.now s d (plain_control c.pop.new.self) c.in-Some.ensures c.in-Err-Fault.kind
    met.0)) c.fail.ensures.done
