use Rattle.std.proofs.Common.{Bool, List, true, false, None, sym, subst}
use Rattle.cob_program.specs.ActView.{plain_program, plain_body}
use Rattle.cob_program.specs.Act.{Act}
use Rattle.cob_program.specs.declared.act.Target.{Target}
use Rattle.cob_program.specs.SumView.{plain_sum}
use Rattle.cob_runs.specs.Acts as acts
use Rattle.cob_runs.specs.Effects.{edge_computed}
use Rattle.cob_plan.specs.Doing.{Forks, without_error, with_error}
use Rattle.cob_program.proofs.ActViews.{perform_is, arith_is}
use Rattle.cob_plan.proofs.computing.compute.Goals as goal

pub returns-in-Perform-clause-value : goal.returns-in-Perform-clause-value
returns-in-Perform-clause-value c = λ number.
    let x = c.in-Perform in
    let p = plain_program c.args.world.now.program in
    let w = c.args.world.now.world in
    subst
    (λ (a : Act). Forks (edge_computed p number None w false a) (edge_computed p number None w true a) w c.augment_turns.new.world.world c.augment_turns.result)
    (sym (perform_is c.args.act.now x.body x.turns x.is)) (c.augment_turns.ensures.value number (plain_body x.body))

pub returns-in-Arith-clause-value : goal.returns-in-Arith-clause-value
returns-in-Arith-clause-value c = λ number.
    let x = c.in-Arith in
    let p = plain_program c.args.world.now.program in
    let w = c.args.world.now.world in
    let phrase = c.is_given-phrase.result in
    subst
    (λ (a : Act). Forks (edge_computed p number None w false a) (edge_computed p number None w true a) w c.compute_all.new.world.world c.compute_all.result)
    (sym (arith_is c.args.act.now x.common x.targets x.remainder x.size x.fine x.is))
    (subst
    (λ (given : Bool). Forks (without_error (acts.compute p.layout given (plain_sum x.common) x.targets x.remainder w))
    (with_error (acts.compute p.layout given (plain_sum x.common) x.targets x.remainder w)) w c.compute_all.new.world.world
    c.compute_all.result)
    c.is_given-phrase.ensures
    (subst
    (λ (ts : List Target). Forks (without_error (acts.compute p.layout phrase (plain_sum x.common) ts x.remainder w))
    (with_error (acts.compute p.layout phrase (plain_sum x.common) ts x.remainder w)) w c.compute_all.new.world.world
    c.compute_all.result)
    c.get.ensures c.compute_all.ensures.value))
