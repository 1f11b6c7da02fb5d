use Rattle.cell_laws.proofs.FirstBytes.{filled_bytes_stand}
use Rattle.cell_laws.proofs.cell_facts.filled_bytes_stand.Goals as goal

pub returns : goal.returns
returns c = filled_bytes_stand
