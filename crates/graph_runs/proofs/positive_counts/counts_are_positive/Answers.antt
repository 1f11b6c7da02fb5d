use Rattle.graph_runs.proofs.Counted.{counts_are_positive, counters_are_positive}
use Rattle.graph_runs.proofs.positive_counts.counts_are_positive.Goals as goal

pub returns-clause-counts : goal.returns-clause-counts
returns-clause-counts c = counts_are_positive

pub returns-clause-counters : goal.returns-clause-counters
returns-clause-counters c = counters_are_positive
