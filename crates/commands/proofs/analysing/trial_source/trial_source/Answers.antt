use Rattle.commands.proofs.AnalysisLines.{one_more}
use Rattle.commands.proofs.analysing.trial_source.trial_source.Goals as goal

pub loop-done-preserved : goal.loop-done-preserved
loop-done-preserved c = one_more c.args.count c.loop-done.done _ _ _ c.loop-done-test.true c.loop-done.invariant c.in_ok-push_paragraph.ensures
