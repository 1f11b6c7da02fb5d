use Rattle.std.proofs.Common.{◌∙◌, ap, Ok}
use Rattle.cob_runs.specs.Steps.{is_left}
use Rattle.cob_step.proofs.loops.goes_on.Goals as goal

pub returns-in-Times : goal.returns-in-Times
returns-in-Times c = λ ch.
    rw c.in-Times.is (ap Ok (c.is_left.ensures ∙ ap is_left c.count_of.ensures))
