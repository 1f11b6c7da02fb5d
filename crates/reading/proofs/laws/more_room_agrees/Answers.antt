use Rattle.reading.proofs.BracketsLaw.{tree_agrees}
use Rattle.reading.proofs.laws.more_room_agrees.Goals as goal

pub returns : goal.returns
returns c = tree_agrees
