use Rattle.std.proofs.Common.{◌≡◌, ◌++◌, drop}
use Rattle.cob_program.specs.ActView.{plain_paras}
use Rattle.analyse_core.specs.Mentions.{lists_of}
use Rattle.analyse_core.specs.Choice.{all_loops}
use Rattle.analyse_core.proofs.choice.loop_lists.Given as goal

abbrev pub invariant-loop-home : goal.invariant-loop-home
invariant-loop-home l =
    lists_of l.lists.items ++ all_loops (lists_of l.texts) l.home (plain_paras (drop l.home l.paras)) ≡ all_loops (lists_of l.texts) 0 (plain_paras l.paras)
