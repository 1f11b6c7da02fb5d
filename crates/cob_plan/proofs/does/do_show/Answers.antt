use Rattle.std.proofs.Common.{refl, []}
use Rattle.cob_program.specs.ActView.{plain_act, plain_program}
use Rattle.cob_runs.specs.declared.action.Action.TheVariants as action
use Rattle.cob_plan.specs.declared.node.Op.TheVariants as op
use Rattle.cob_plan.proofs.WayLemmas.{only}
use Rattle.cob_plan.proofs.does.do_show.Goals as goal

pub returns-clause-value : goal.returns-clause-value
returns-clause-value c =
    let p = plain_program c.args.world.now.program in
    let s = c.args.statement.now in
    c.next_by_one_way.ensures p s.number (plain_act s.act.now) (op.Show c.args.to) action.Show c.args.world.now.world c.show.new.world.world
    (record { its = c.requires.its.its; out = only (action.Show, c.args.to) []; handled = refl })
    (c.show.ensures.value s.number)
