use Rattle.edge_parts.specs.PartView.{plain_reference}
use Rattle.edge_parts.proofs.HandingLaws.{list_of}
use Rattle.edge_parts.proofs.tests_of.tests_in.Goals as goal

pub returns-in-Continue : goal.returns-in-Continue
returns-in-Continue c =
    list_of plain_reference _ c.new.result _ _ c.into_list.ensures c.new.ensures.items c.in-Continue.ensures
