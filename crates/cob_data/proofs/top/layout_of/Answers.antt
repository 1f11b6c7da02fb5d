use Rattle.cob_data.proofs.PrintLemmas.{few_entries}
use Rattle.cob_data.proofs.AnswerLemmas.{answer_is, outside_is, limit_is, accepted_is}
use Rattle.cob_data.proofs.top.layout_of.Goals as goal

pub laid_out-requires : goal.laid_out-requires
laid_out-requires c = few_entries c.args.tree.now c.requires

pub returns-clause-answer : goal.returns-clause-answer
returns-clause-answer c = answer_is c.args.tree.now _ c.laid_out.ensures

pub returns-clause-outside : goal.returns-clause-outside
returns-clause-outside c = outside_is c.args.tree.now _ c.laid_out.ensures

pub returns-clause-limit : goal.returns-clause-limit
returns-clause-limit c = limit_is c.args.tree.now _ c.laid_out.ensures

pub returns-clause-accepted : goal.returns-clause-accepted
returns-clause-accepted c = accepted_is c.args.tree.now _ c.laid_out.ensures
