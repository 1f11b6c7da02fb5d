use Rattle.cell_laws.proofs.Flow.{cells_flow}
use Rattle.cell_laws.proofs.layers.cells_flow.Goals as goal

pub returns : goal.returns
returns c = cells_flow
