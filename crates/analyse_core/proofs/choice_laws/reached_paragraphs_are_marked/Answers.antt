use Rattle.analyse_core.proofs.Reached.{reached_are_marked}
use Rattle.analyse_core.proofs.choice_laws.reached_paragraphs_are_marked.Goals as goal

pub returns : goal.returns
returns c = reached_are_marked
