use Rattle.cob_graph_build.proofs.within.Within.+first_of_whens.Given as goal

abbrev pub decreases-first_of_whens : goal.decreases-first_of_whens
decreases-first_of_whens l = l.left
