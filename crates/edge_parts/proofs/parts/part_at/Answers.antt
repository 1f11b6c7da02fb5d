use Rattle.std.proofs.Common.{ap, ◌∙◌}
use Rattle.std.specs.Option.{option_map}
use Rattle.edge_parts.specs.PartView.{plain_part}
use Rattle.edge_parts.proofs.HandingLaws.{found_is, none_is}
use Rattle.edge_parts.proofs.parts.part_at.Goals as goal

pub returns-in-Continue : goal.returns-in-Continue
returns-in-Continue c = none_is plain_part _ _ _ (c.in-Continue.ensures c.test_of.ensures)

pub returns : goal.returns
returns c =
    ap (option_map plain_part) c.found.ensures ∙ found_is plain_part _ _ _ (c.in-Break.ensures c.test_of.ensures)
