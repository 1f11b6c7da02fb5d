use Rattle.std.proofs.Common.{◌≡◌, ◌++◌, drop}
use Rattle.analyse_core.proofs.reaching.add_all.Given as goal

abbrev pub invariant-loop-mention : goal.invariant-loop-mention
invariant-loop-mention l = l.mentions.items ++ drop l.mention-index l.more ≡ l.initial.mentions.items ++ l.more
