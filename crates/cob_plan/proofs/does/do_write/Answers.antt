use Rattle.std.proofs.Common.{ℕ, refl, [], ◌∷◌}
use Rattle.cob_program.specs.ActView.{plain_act, plain_program}
use Rattle.cob_runs.specs.declared.action.Action.{Action}
use Rattle.cob_runs.specs.declared.action.Action.TheVariants as action
use Rattle.cob_plan.specs.declared.node.Op.TheVariants as op
use Rattle.cob_plan.proofs.WayLemmas.{only, second}
use Rattle.cob_plan.proofs.does.do_write.Goals as goal

pub returns-clause-value : goal.returns-clause-value
returns-clause-value c =
    let p = plain_program c.args.world.now.program in
    let s = c.args.statement.now in
    let fine : Action × ℕ = (action.Write, c.args.fine) in
    let bad : Action × ℕ = (action.Bad 0, c.args.bad) in
    c.next_after_call.ensures p s.number 0 (plain_act s.act.now) (op.Write c.args.fine c.args.bad) (action.Write) c.args.world.now.world c.write.new.world.world
    (record { its = c.requires.its.its; out = only fine (bad ∷ []); handled = refl }) (second fine bad []) refl
    (c.in_ok-write.ensures.value s.number)
