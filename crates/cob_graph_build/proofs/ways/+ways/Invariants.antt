use Rattle.cob_graph_build.proofs.ways.+ways.Given as goal

abbrev pub decreases-way_of : goal.decreases-way_of
decreases-way_of l = l.left

abbrev pub decreases-way_of_all : goal.decreases-way_of_all
decreases-way_of_all l = l.left

abbrev pub decreases-way_of_any : goal.decreases-way_of_any
decreases-way_of_any l = l.left
