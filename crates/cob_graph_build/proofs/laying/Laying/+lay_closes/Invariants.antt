use Rattle.std.proofs.Common.{length}
use Rattle.cob_graph_build.proofs.laying.Laying.+lay_closes.Given as goal

abbrev pub decreases-lay_closes : goal.decreases-lay_closes
decreases-lay_closes l = length l.files.now
