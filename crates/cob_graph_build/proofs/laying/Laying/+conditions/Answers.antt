use Rattle.std.proofs.Common.{◌≡◌}
use Rattle.cob_program.specs.LogicView.{plain_logic, plain_logics}
use Rattle.cob_graph.specs.Laid.{tests_in}
use Rattle.cob_graph.specs.Limits.{most_told}
use Rattle.cob_graph_build.specs.Growing.{copied_of}
use Rattle.cob_graph_build.proofs.Cuts.{whole}
use Rattle.cob_graph_build.proofs.Heads.{others, logics_cut}
use Rattle.cob_graph_build.proofs.LayLemmas.{every_ok, some_ok}
use Rattle.cob_graph_build.proofs.laying.Laying.+conditions.Goals as goal

pub lay_every-returns-in_ok-lay_logic-in-len1-up : goal.lay_every-returns-in_ok-lay_logic-in-len1-up
lay_every-returns-in_ok-lay_logic-in-len1-up t c =
    let x = plain_logic c.part-item.result in
    let told = c.in_ok-exact-in-len1-up.ensures in
    every_ok (copied_of c.args.within.now) c.args.statement c.lay_every.result c.args.self.now c.lay_logic.new.self
    c.lay_every.new.self c.args.starts (plain_logics c.args.parts.now) x (plain_logics (others c.args.parts.now))
    c.args.fork c.in_ok-behind-in-len1-up.behind c.held_at.result c.in_ok-exact-in-len1-up.field-0
    c.in_ok-yes-in-len1-up.yes
    c.lay_every.ensures (logics_cut c.args.parts.now c.part-item.result c.in-len1-up.len_at_least c.part-item.is)
    (whole most_told c.in_ok-exact-in-len1-up.field-0 c.tests_in.result (tests_in x) told.told c.tests_in.ensures
    told.below)
    c.in_ok-behind-in-len1-up.ensures c.in_ok-yes-in-len1-up.ensures c.held_at.ensures
    c.in_ok-lay_logic-in-len1-up.ensures

pub lay_some-returns-in_ok-lay_logic-in-len1-up : goal.lay_some-returns-in_ok-lay_logic-in-len1-up
lay_some-returns-in_ok-lay_logic-in-len1-up t c =
    let x = plain_logic c.part-item.result in
    let told = c.in_ok-exact-in-len1-up.ensures in
    some_ok (copied_of c.args.within.now) c.args.statement c.lay_some.result c.args.self.now c.lay_logic.new.self
    c.lay_some.new.self c.args.starts (plain_logics c.args.parts.now) x (plain_logics (others c.args.parts.now))
    c.args.fork c.in_ok-behind-in-len1-up.behind c.failed_at.result c.in_ok-exact-in-len1-up.field-0
    c.in_ok-no-in-len1-up.no
    c.lay_some.ensures (logics_cut c.args.parts.now c.part-item.result c.in-len1-up.len_at_least c.part-item.is)
    (whole most_told c.in_ok-exact-in-len1-up.field-0 c.tests_in.result (tests_in x) told.told c.tests_in.ensures
    told.below)
    c.in_ok-behind-in-len1-up.ensures c.in_ok-no-in-len1-up.ensures c.failed_at.ensures
    c.in_ok-lay_logic-in-len1-up.ensures
