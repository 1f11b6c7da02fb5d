use Rattle.std.proofs.Common.{ap}
use Rattle.cob_program.specs.ActView.{plain_body, plain_program}
use Rattle.cob_edge_parts.specs.Parts.{assign_parts}
use Rattle.edge_parts.specs.PartView.{plain_part}
use Rattle.cob_program.proofs.ActViews.{perform_is}
use Rattle.edge_parts.proofs.HandingLaws.{takes_same}
use Rattle.edge_parts.proofs.part_edges.push_assigning.Goals as goal

pub returns-in-Perform : goal.returns-in-Perform
returns-in-Perform c = λ number.
    let x = c.in-Perform in
    takes_same plain_part _ _ _ _ _ (ap (assign_parts (plain_program c.args.program.now) number) (perform_is c.args.act.now x.body x.turns x.is))
    (c.push_start.ensures number (plain_body x.body))
