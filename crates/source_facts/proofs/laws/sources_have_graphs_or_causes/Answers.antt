use Rattle.source_facts.proofs.Control.{sources_have_graphs_or_causes, sources_have_targets}
use Rattle.source_facts.proofs.laws.sources_have_graphs_or_causes.Goals as goal

pub returns-clause-targets : goal.returns-clause-targets
returns-clause-targets c = sources_have_targets

pub returns-clause-graphs : goal.returns-clause-graphs
returns-clause-graphs c = sources_have_graphs_or_causes
