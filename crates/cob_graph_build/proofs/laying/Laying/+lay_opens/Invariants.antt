use Rattle.std.proofs.Common.{length}
use Rattle.cob_graph_build.proofs.laying.Laying.+lay_opens.Given as goal

abbrev pub decreases-lay_opens : goal.decreases-lay_opens
decreases-lay_opens l = length l.files.now
