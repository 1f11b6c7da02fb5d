use Rattle.cob_tree.specs.Keywords.{keyword_of, keywords}
use Rattle.cob_tree.proofs.KeywordLemmas.{among-written, reserved-found-as}
use Rattle.cob_tree.proofs.keyword.keyword_of.Goals as goal

pub returns-clause-value : goal.returns-clause-value
unfolding keyword_of
returns-clause-value c = c.looked_up.ensures

pub returns-clause-reserved : goal.returns-clause-reserved
unfolding keyword_of
returns-clause-reserved c = rw c.looked_up.ensures (among-written c.args.name.now keywords)

pub returns-clause-free : goal.returns-clause-free
unfolding keyword_of
returns-clause-free c = reserved-found-as c.args.name.now c.looked_up.result c.looked_up.ensures
