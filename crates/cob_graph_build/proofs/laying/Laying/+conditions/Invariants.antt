use Rattle.cob_graph_build.proofs.laying.Laying.+conditions.Given as goal

abbrev pub decreases-lay_logic : goal.decreases-lay_logic
decreases-lay_logic l = l.left

abbrev pub decreases-lay_every : goal.decreases-lay_every
decreases-lay_every l = l.left

abbrev pub decreases-lay_some : goal.decreases-lay_some
decreases-lay_some l = l.left
