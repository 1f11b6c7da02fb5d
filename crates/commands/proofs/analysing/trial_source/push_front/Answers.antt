use Rattle.std.proofs.lemmas.Result.{on_ok_weaker}
use Rattle.commands.proofs.AnalysisLines.{front_grows}
use Rattle.commands.proofs.analysing.trial_source.push_front.Goals as goal

pub returns : goal.returns
returns c = on_ok_weaker c.push_line-6.result
    (front_grows c.args.text.now.items c.in_ok-push_line.ensures c.in_ok-push_line-2.ensures c.in_ok-push_line-3.ensures
    c.in_ok-push_line-4.ensures c.in_ok-push_line-5.ensures)
    c.push_line-6.ensures
