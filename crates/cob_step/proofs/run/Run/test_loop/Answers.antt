use Rattle.std.proofs.Common.{◌∙◌, sym, refl, ap, Ok, true, false, if◌then◌else◌}
use Rattle.cob_program.specs.ActView.{plain_program, plain_body, plain_turns}
use Rattle.cob_runs.specs.State.{going}
use Rattle.cob_runs.specs.Steps.{turn, goes_on}
use Rattle.cob_step.specs.Views.{plain_control}
use Rattle.cob_step.proofs.Onward.{behind, broken, goes}
use Rattle.cob_step.proofs.run.Run.test_loop.Goals as goal

pub returns-in_ok-push_turn-in-Ok-true-clause-done : goal.returns-in_ok-push_turn-in-Ok-true-clause-done
returns-in_ok-push_turn-in-Ok-true-clause-done c = λ ch.
    let p = plain_program c.args.self.now.world.program in
    let w = c.args.self.now.world.world in
    let ds = plain_control c.args.self.now.control in
    let n = c.args.number in
    let body = plain_body c.args.body.now in
    let turns = plain_turns c.args.turns.now in
    behind (goes_on p ch n turns w) true (λ b. Ok (going w (if b then turn p ch n body turns ds else ds)))
    (sym (c.goes_on.ensures ch) ∙ c.in-Ok-true.is ∙ ap Ok c.in-Ok-true.field-0-test)
    ∙ ap Ok (goes w (turn p ch n body turns ds) (plain_control c.push_turn.new.self) c.args.self.now.outcome
    (sym (c.in_ok-push_turn-in-Ok-true.ensures p ch)) c.requires.going)

pub returns-in-Ok-false-clause-done : goal.returns-in-Ok-false-clause-done
returns-in-Ok-false-clause-done c = λ ch.
    let p = plain_program c.args.self.now.world.program in
    let w = c.args.self.now.world.world in
    let ds = plain_control c.args.self.now.control in
    let n = c.args.number in
    let body = plain_body c.args.body.now in
    let turns = plain_turns c.args.turns.now in
    behind (goes_on p ch n turns w) false (λ b. Ok (going w (if b then turn p ch n body turns ds else ds)))
    (sym (c.goes_on.ensures ch) ∙ c.in-Ok-false.is ∙ ap Ok c.in-Ok-false.field-0-test)
    ∙ ap Ok (goes w ds ds c.args.self.now.outcome refl c.requires.going)

pub returns-in-Err-clause-done : goal.returns-in-Err-clause-done
returns-in-Err-clause-done c = λ ch.
    let p = plain_program c.args.self.now.world.program in
    let w = c.args.self.now.world.world in
    let ds = plain_control c.args.self.now.control in
    let n = c.args.number in
    let body = plain_body c.args.body.now in
    let turns = plain_turns c.args.turns.now in (
      broken (goes_on p ch n turns w) _ (λ b. Ok (going w (if b then turn p ch n body turns ds else ds)))
          (sym (c.in-Err.ensures ch)),
      refl,
    )
