use Rattle.std.proofs.Common.{ap}
use Rattle.cob_program.specs.ActView.{plain_body}
use Rattle.cob_edge_parts.specs.Parts.{count_parts}
use Rattle.edge_parts.specs.PartView.{plain_part}
use Rattle.cob_program.proofs.ActViews.{perform_is}
use Rattle.edge_parts.proofs.HandingLaws.{takes_same}
use Rattle.edge_parts.proofs.part_edges.push_counting.Goals as goal

pub returns-in-Perform : goal.returns-in-Perform
returns-in-Perform c = λ p.
    let x = c.in-Perform in
    takes_same plain_part _ _ _ _ _ (ap (count_parts p c.args.number) (perform_is c.args.act.now x.body x.turns x.is))
    (c.push_turns.ensures p (plain_body x.body))
