use Rattle.edge_parts.specs.PartView.{plain_part}
use Rattle.edge_parts.proofs.HandingLaws.{list_if}
use Rattle.edge_parts.proofs.work.listed.Goals as goal

pub returns-in-Continue : goal.returns-in-Continue
returns-in-Continue c =
    list_if plain_part _ c.new.result _ _ _ c.into_list.ensures c.new.ensures.items c.in-Continue.ensures
