use Rattle.std.proofs.Common.{arith}
use Rattle.edge_parts.specs.PartView.{plain_part}
use Rattle.edge_parts.proofs.HandingLaws.{more_than, as_many}
use Rattle.edge_parts.proofs.parts.part_count.Goals as goal

pub returns-in-Break : goal.returns-in-Break
returns-in-Break c =
    let more = more_than plain_part _ _ _ (c.in-Break.ensures c.test_of.ensures) in
    omega (arith, more)

pub returns : goal.returns
returns c =
    let all = as_many plain_part _ _ _ (c.in-Continue.ensures c.test_of.ensures) in
    let rest = c.left.ensures in
    omega (arith, all, rest)
