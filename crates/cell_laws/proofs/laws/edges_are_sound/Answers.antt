use Rattle.cell_laws.proofs.EachEdge.{edges_are_walked, posts_fit_owns, all_posts_rise, all_clears_stay}
use Rattle.cell_laws.proofs.laws.edges_are_sound.Goals as goal

pub returns-clause-walks : goal.returns-clause-walks
returns-clause-walks c = edges_are_walked

pub returns-clause-fits : goal.returns-clause-fits
returns-clause-fits c = posts_fit_owns

pub returns-clause-rises : goal.returns-clause-rises
returns-clause-rises c = all_posts_rise

pub returns-clause-stays : goal.returns-clause-stays
returns-clause-stays c = all_clears_stay
