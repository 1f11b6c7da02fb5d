use Rattle.std.proofs.Common.{true, false, None, sym, ◌∙◌, subst}
use Rattle.cob_program.specs.ActView.{plain_act, plain_program}
use Rattle.cob_runs.specs.Effects.{Effect, edge_decided, edge_tested, tests_in_act}
use Rattle.std.specs.Prelude.{slice_get}
use Rattle.cob_plan.specs.Doing.{Forks}
use Rattle.cob_plan.proofs.TestLemmas.{tested_is, test_there}
use Rattle.cob_plan.proofs.deciding.test.Goals as goal

pub decide_at-requires-clause-there : goal.decide_at-requires-clause-there
decide_at-requires-clause-there c =
    test_there c.args.place (plain_act c.args.statement.now.act.now) (sym c.is_times.ensures ∙ c.if-is_times.false)
    c.requires.fits

pub returns-else-is_times : goal.returns-else-is_times
returns-else-is_times c =
    let p = plain_program c.args.world.now.program in
    let w = c.args.world.now.world in
    let s = c.args.statement.now in
    let a = plain_act s.act.now in
    let k = c.args.place in
    let other = sym c.is_times.ensures ∙ c.if-is_times.false in
    let there = slice_get (tests_in_act a) k in
    subst (λ (e : Effect). Forks e (edge_tested p s.number None w false k a) w w c.decide_at.result)
    (sym (tested_is p s.number w true k a other))
    (subst (λ (e : Effect). Forks (edge_decided p s.number None w true there) e w w c.decide_at.result)
    (sym (tested_is p s.number w false k a other)) (c.decide_at.ensures s.number))
