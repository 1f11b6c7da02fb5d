use Rattle.std.proofs.Common.{ℕ, refl, [], ◌∷◌}
use Rattle.cob_program.specs.ActView.{plain_act, plain_program}
use Rattle.cob_runs.specs.declared.action.Action.{Action}
use Rattle.cob_runs.specs.declared.action.Action.TheVariants as action
use Rattle.cob_plan.specs.declared.node.Op.TheVariants as op
use Rattle.cob_plan.proofs.WayLemmas.{only, second}
use Rattle.cob_plan.proofs.does.do_test.Goals as goal

pub returns : goal.returns
returns c =
    let p = plain_program c.args.world.now.program in
    let s = c.args.statement.now in
    let w = c.args.world.now.world in
    let held : Action × ℕ = (action.True c.args.place, c.args.held) in
    let other : Action × ℕ = (action.False c.args.place, c.args.other) in
    c.next_of_two.ensures p s.number (plain_act s.act.now) (op.Test c.args.place c.args.held c.args.other)
    (action.True c.args.place) (action.False c.args.place) w w
    (record { its = c.requires.its.its; out = only held (other ∷ []); handled = refl })
    (record { its = c.requires.its.its; out = second held other []; handled = refl }) c.test.ensures
