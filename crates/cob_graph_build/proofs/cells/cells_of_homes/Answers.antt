use Rattle.std.proofs.Common.{◌∙◌, ap, map}
use Rattle.std.proofs.lemmas.List.{get_or_default, take_all}
use Rattle.cob_data.proofs.StepLemmas.{mapped_step}
use Rattle.cob_graph.specs.declared.homes.Home.TheVariants.{Item}
use Rattle.cob_graph.specs.Homes.{cell_of_home}
use Rattle.cob_graph_build.proofs.cells.cells_of_homes.Goals as goal

pub loop-home-preserved : goal.loop-home-preserved
loop-home-preserved c =
    mapped_step (cell_of_home c.args.layout.now) c.args.homes.now c.loop-home.home-index _ c.loop-home.cells.items _ _
    c.loop-home-test.true (get_or_default c.args.homes.now c.loop-home.home-index (Item 0) _ c.loop-home-test.true) c.cell_of_home.ensures c.in_ok-push.ensures.items c.loop-home.invariant

pub returns : goal.returns
returns c =
    c.loop-home.invariant ∙ ap (map (cell_of_home c.args.layout.now)) (take_all c.loop-home.home-index c.args.homes.now c.loop-home-test.false)
