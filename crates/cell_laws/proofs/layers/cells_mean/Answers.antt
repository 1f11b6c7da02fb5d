use Rattle.cell_laws.proofs.Meaning.{cells_mean}
use Rattle.cell_laws.proofs.layers.cells_mean.Goals as goal

pub returns : goal.returns
returns c = cells_mean
