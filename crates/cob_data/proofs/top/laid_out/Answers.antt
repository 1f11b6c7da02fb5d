use Rattle.cob_data.proofs.AnswerLemmas.{few_as}
use Rattle.cob_data.proofs.top.laid_out.Goals as goal

pub judged-requires-clause-few : goal.judged-requires-clause-few
judged-requires-clause-few c = few_as c.in_ok-known.known c.args.tree.now c.in_ok-known.ensures c.requires
