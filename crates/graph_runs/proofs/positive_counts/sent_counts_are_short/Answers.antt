use Rattle.graph_runs.proofs.Sent.{sent_counts_are_short}
use Rattle.graph_runs.proofs.positive_counts.sent_counts_are_short.Goals as goal

pub returns : goal.returns
returns c = sent_counts_are_short
