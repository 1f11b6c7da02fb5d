use Rattle.std.proofs.Common.{true, false, Option, None, sym, subst}
use Rattle.cob_program.specs.Logic.{Test}
use Rattle.cob_program.specs.ActView.{plain_act, plain_program}
use Rattle.cob_runs.specs.Effects.{edge_decided, tests_in_act}
use Rattle.cob_plan.specs.Doing.{Forks}
use Rattle.cob_plan.proofs.TestLemmas.{found_test, no_test}
use Rattle.cob_plan.proofs.deciding.decide_at.Goals as goal

pub unreachable-requires : goal.unreachable-requires
unreachable-requires c =
    let s = c.args.statement.now in
    no_test c.test_at.result s.tests.items (tests_in_act (plain_act s.act.now)) c.args.place c.test_at.ensures c.in-None.is
    c.requires.its.tests c.requires.there

pub returns : goal.returns
returns c = λ number.
    let p = plain_program c.args.world.now.program in
    let w = c.args.world.now.world in
    let s = c.args.statement.now in
    let is = found_test c.test_at.result c.in-Some.test s.tests.items (tests_in_act (plain_act s.act.now)) c.args.place
    c.test_at.ensures c.in-Some.is c.requires.its.tests in
    subst (λ (o : Option Test). Forks (edge_decided p number None w true o) (edge_decided p number None w false o) w w c.decide.result)
    (sym is) (c.decide.ensures number)
