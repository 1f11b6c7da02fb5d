use Rattle.std.proofs.Common.{◌≡◌, ◌++◌, drop}
use Rattle.analyse_core.specs.Mentions.{targets_mentions}
use Rattle.analyse_core.proofs.mention.add_targets.Given as goal

abbrev pub invariant-loop-target : goal.invariant-loop-target
invariant-loop-target l =
    l.mentions.items ++ targets_mentions (drop l.target-index l.targets)
    ≡ l.initial.mentions.items ++ targets_mentions (l.initial.targets)
