use Rattle.std.proofs.Common.{◌∙◌, sym, ap}
use Rattle.cob_program.specs.ActView.{plain_body}
use Rattle.cob_runs.specs.Effects.{is_times}
use Rattle.cob_program.proofs.ActViews.{perform_is}
use Rattle.cob_plan.proofs.deciding.is_times.Goals as goal

pub returns-in-Perform : goal.returns-in-Perform
returns-in-Perform c =
    let p = c.in-Perform in
    c.are_times.ensures (plain_body p.body) ∙ sym (ap is_times (perform_is c.args.act.now p.body p.turns p.is))
