use Rattle.std.proofs.Common.{◌∙◌, ◌∷◌, sym, ap, refl, Ok, None}
use Rattle.cob_runs.specs.State.{rest, going}
use Rattle.cob_program.specs.ActView.{plain_stmts}
use Rattle.cob_step.specs.Views.{plain_control}
use Rattle.cob_step.proofs.Onward.{behind, broken, goes}
use Rattle.cob_step.proofs.run.Run.do_evaluate.Goals as goal

pub returns-in-Err-clause-done : goal.returns-in-Err-clause-done
returns-in-Err-clause-done c = (
  broken _ _ (λ ss. Ok (going c.args.self.now.world.world (rest ss ∷ plain_control c.args.self.now.control)))
      (c.in-Err.ensures None),
  refl,
)

pub returns-in_ok-push-in-Ok-clause-done : goal.returns-in_ok-push-in-Ok-clause-done
returns-in_ok-push-in-Ok-clause-done c =
    let w = c.args.self.now.world.world in
    let ds = plain_control c.args.self.now.control in
    behind _ _ (λ ss. Ok (going w (rest ss ∷ ds))) (c.in-Ok.ensures None)
    ∙ ap Ok (goes w (rest (plain_stmts c.in-Ok.list.now) ∷ ds) (plain_control c.push.new.self) c.args.self.now.outcome
    (sym c.in_ok-push-in-Ok.ensures) c.requires.going)
