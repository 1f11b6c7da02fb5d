use Rattle.std.proofs.Common.{[], ◌∷◌}
use Rattle.edge_parts.specs.PartView.{plain_part}
use Rattle.edge_parts.proofs.HandingLaws.{stops, takes_both}
use Rattle.edge_parts.proofs.taker.push_two.Goals as goal

pub returns-in_err-push_part : goal.returns-in_err-push_part
returns-in_err-push_part c =
    rw c.from_residual.ensures
    (stops plain_part _ _ (plain_part c.args.first ∷ []) (plain_part c.args.second ∷ []) c.in_err-push_part.ensures)

pub returns : goal.returns
returns c =
    takes_both plain_part _ _ _ (plain_part c.args.first ∷ []) (plain_part c.args.second ∷ []) _
    c.in_ok-push_part.ensures c.push_part-2.ensures
