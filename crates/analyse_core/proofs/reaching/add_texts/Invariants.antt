use Rattle.std.proofs.Common.{◌≡◌, ◌++◌, drop}
use Rattle.analyse_core.specs.Mentions.{lists_of}
use Rattle.analyse_core.specs.Reaching.{mentions_from}
use Rattle.analyse_core.proofs.reaching.add_texts.Given as goal

abbrev pub invariant-loop-para : goal.invariant-loop-para
invariant-loop-para l =
    l.mentions.items ++ mentions_from l.own l.home l.para (drop l.para l.marks) (lists_of (drop l.para l.texts))
    ≡ l.initial.mentions.items ++ mentions_from l.own l.home 0 l.marks (lists_of l.texts)
