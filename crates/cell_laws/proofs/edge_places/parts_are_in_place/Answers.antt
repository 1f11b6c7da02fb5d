use Rattle.cell_laws.proofs.Parts.{parts_are_in_place, arithmetic_is_done}
use Rattle.cell_laws.proofs.edge_places.parts_are_in_place.Goals as goal

pub returns-clause-parts : goal.returns-clause-parts
returns-clause-parts c = parts_are_in_place

pub returns-clause-arithmetic : goal.returns-clause-arithmetic
returns-clause-arithmetic c = arithmetic_is_done
