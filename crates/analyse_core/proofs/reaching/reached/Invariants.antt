use Rattle.std.proofs.Common.{◌≡◌}
use Rattle.analyse_core.specs.Mentions.{lists_of}
use Rattle.analyse_core.specs.Reaching.{reached_through}
use Rattle.analyse_core.proofs.reaching.reached.Given as goal

abbrev pub invariant-loop-round : goal.invariant-loop-round
invariant-loop-round l = l.marks.items ≡ reached_through (lists_of l.texts) l.own l.round
