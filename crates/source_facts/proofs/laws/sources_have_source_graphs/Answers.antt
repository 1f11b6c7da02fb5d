use Rattle.source_facts.proofs.Facts.{sources_have_source_graphs}
use Rattle.source_facts.proofs.laws.sources_have_source_graphs.Goals as goal

pub returns : goal.returns
returns c = sources_have_source_graphs
