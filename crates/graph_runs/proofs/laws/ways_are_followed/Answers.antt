use Rattle.graph_runs.proofs.Following.{ways_are_followed}
use Rattle.graph_runs.proofs.laws.ways_are_followed.Goals as goal

pub returns : goal.returns
returns c = ways_are_followed
