use Rattle.cob_data.proofs.AnswerLemmas.{seated_as, low_as}
use Rattle.cob_data.proofs.top.judged.Goals as goal

pub refusal_in-requires-clause-seated : goal.refusal_in-requires-clause-seated
refusal_in-requires-clause-seated c = seated_as c.args.known.now.items c.args.known.now.spots c.requires.laid

pub layout_in-requires-clause-same : goal.layout_in-requires-clause-same
layout_in-requires-clause-same c = seated_as c.args.known.now.items c.args.known.now.spots c.requires.laid

pub layout_in-requires-clause-low : goal.layout_in-requires-clause-low
layout_in-requires-clause-low c = low_as c.args.known.now c.requires.laid c.in-None.ensures
