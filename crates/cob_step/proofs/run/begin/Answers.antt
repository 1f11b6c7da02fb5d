use Rattle.std.proofs.Common.{◌∙◌, ◌∷◌, ◌-◌, [], List, length, map, sym, ap, subst, None}
use Rattle.std.specs.Option.{option_map}
use Rattle.cob_program.specs.ActView.{plain_program}
use Rattle.cob_runs.specs.Runs.{first_world}
use Rattle.cob_runs.specs.State.{World, Doing, rest, paras}
use Rattle.cob_runs.specs.Steps.{body_at, settled_on}
use Rattle.cob_step.specs.Ready.{CanDoAll}
use Rattle.cob_step.specs.Views.{plain_control}
use Rattle.cob_step.proofs.Kept.{can_body, can_settle}
use Rattle.cob_step.proofs.run.begin.Goals as goal

pub returns-clause-begun : goal.returns-clause-begun
returns-clause-begun c =
    let p = plain_program c.args.program.now in
    let w = c.in_ok-world.world.world in
    let ds = plain_control c.in_ok-control.control in
    sym (c.outcome-outcome.ensures p None w)
    ∙ ap (λ (v : World). settled_on p None v ds) c.in_ok-world.ensures.value
    ∙ ap (λ es. settled_on p None (first_world p (map (option_map (λ v. v.items)) c.args.contents.items) []) es)
    c.in_ok-control.ensures

pub returns-clause-ready : goal.returns-clause-ready
returns-clause-ready c =
    let p = plain_program c.args.program.now in
    let P : List Doing → Type 0 = λ ds. CanDoAll p.layout ds in
    record {
      able = subst P (sym c.in_ok-control.ensures)
          (can_settle p c.requires.able (rest (body_at p 0) ∷ paras 1 (length p.paras - 1) ∷ [])
          (can_body p c.requires.able 0, (tt, tt)));
    }
