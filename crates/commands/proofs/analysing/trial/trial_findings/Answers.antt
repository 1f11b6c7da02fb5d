use Rattle.std.proofs.Common.{◌≡◌, ℕ, List, ◌⊎◌, ◌∙◌, subst}
use Rattle.cob_front.specs.declared.refusal.Refusal.TheVariants.{Memory}
use Rattle.commands.specs.Profile.{IsProfileCause}
use Rattle.commands.specs.Steps.{IsLaid}
use Rattle.commands.proofs.Trials.{found_in_trial, refused_trial}
use Rattle.commands.proofs.analysing.trial.trial_findings.Goals as goal

pub returns-in-Ok-numbered_findings-clause-finding : goal.returns-in-Ok-numbered_findings-clause-finding
returns-in-Ok-numbered_findings-clause-finding c =
    let laid = c.in-Ok-laid_in.laid in
    found_in_trial c.args.count laid
    (subst (λ (bytes : List ℕ). IsLaid bytes laid) (c.deref.ensures.value ∙ c.in-Ok.ensures) c.in-Ok-laid_in.ensures)
    c.in-Ok-numbered_findings.findings c.in-Ok-numbered_findings.ensures

pub returns-clause-answer : goal.returns-clause-answer
returns-clause-answer c =
    let cause = c.in-Err.cause in
    refused_trial c.args.count c.answer_to.result cause
    (subst (λ (bytes : List ℕ). IsProfileCause bytes cause ⊎ (cause ≡ Memory))
    (c.deref.ensures.value ∙ c.in-Ok.ensures) c.in-Err.ensures)
    c.answer_to.ensures
