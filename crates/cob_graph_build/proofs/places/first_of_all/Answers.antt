use Rattle.std.proofs.Common.{ap, ◌∙◌}
use Rattle.cob_program.specs.LogicView.{plain_logics}
use Rattle.cob_graph_build.specs.Ways.{led}
use Rattle.cob_graph_build.proofs.WayLemmas.{all_way}
use Rattle.cob_graph_build.proofs.places.first_of_all.Goals as goal

pub returns : goal.returns
returns c =
    c.led.ensures ∙ ap (λ w. led w c.args.yes c.args.no) c.in_ok-way_of_all.ensures
    ∙ all_way (plain_logics c.args.parts.now) c.args.at c.args.yes c.args.no
