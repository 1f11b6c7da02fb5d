use Rattle.std.proofs.Common.{◌≡◌, true, sym, ◌∙◌}
use Rattle.cob_program.specs.Act.{varying}
use Rattle.cob_program.specs.ActView.{plain_turns}
use Rattle.cob_program.specs.LogicView.{plain_logic}
use Rattle.cob_graph.specs.Laid.{tests_in}
use Rattle.cob_graph.specs.Limits.{most_told}
use Rattle.cob_graph_build.specs.Growing.{plan, copies_of, copied_of}
use Rattle.cob_graph_build.proofs.Cuts.{whole}
use Rattle.cob_graph_build.proofs.ListLemmas.{varying_is, varying_ok}
use Rattle.cob_graph_build.proofs.laying.Laying.lay_behind.Goals as goal

pub returns-in_ok-lay_logic-in-Varying-true-default-default-default-default :
    goal.returns-in_ok-lay_logic-in-Varying-true-default-default-default-default
returns-in_ok-lay_logic-in-Varying-true-default-default-default-default c = λ body size_is enter_is.
    let w = c.args.within.now in
    let v = c.in-Varying-true-default-default-default-default in
    let tests = c.in_ok-tests-in-Varying-true-default-default-default-default in
    let t = plain_logic v.test in
    let is : plain_turns c.args.turns.now ≡ varying true v.item v.start v.by t =
    varying_is c.args.turns.now v.after v.item v.start v.by v.test v.is (sym v.after-is ∙ v.after-test) in
    varying_ok (copied_of w) (plan w) (copies_of w) c.lay_one-in-Varying-true-default-default-default-default.result
    c.args.self.now
    c.lay_logic-in-Varying-true-default-default-default-default.new.self
    c.lay_one-in-Varying-true-default-default-default-default.new.self
    c.args.number v.item c.args.at c.args.next c.args.size c.in_ok-begin.begin tests.tests
    c.in_ok-tests_at-in-Varying-true-default-default-default-default.tests_at
    c.in_ok-no-in-Varying-true-default-default-default-default.no c.args.enter
    v.start v.by t (plain_turns c.args.turns.now) body is size_is c.in_ok-begin.ensures
    c.in_ok-tests_at-in-Varying-true-default-default-default-default.ensures
    (whole most_told tests.tests c.tests_in.result (tests_in t) tests.ensures.told c.tests_in.ensures
    tests.ensures.below)
    c.in_ok-no-in-Varying-true-default-default-default-default.ensures enter_is
    c.in_ok-lay_logic-in-Varying-true-default-default-default-default.ensures
    c.lay_one-in-Varying-true-default-default-default-default.ensures
