use Rattle.cob_tree.proofs.KeywordLemmas.{texts-differ}
use Rattle.cob_tree.proofs.keyword.keywords_differ.Goals as goal

pub returns : goal.returns
returns c = texts-differ
