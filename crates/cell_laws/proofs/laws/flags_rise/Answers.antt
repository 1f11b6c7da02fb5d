use Rattle.cell_laws.proofs.EachEdge.{all_flags_rise}
use Rattle.cell_laws.proofs.laws.flags_rise.Goals as goal

pub returns : goal.returns
returns c = all_flags_rise
