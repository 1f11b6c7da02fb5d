use Rattle.std.proofs.Common.{◌≡◌, drop}
use Rattle.analyse_core.specs.Mentions.{lists_of}
use Rattle.analyse_core.specs.Reaching.{is_performed_in}
use Rattle.analyse_core.proofs.reaching.is_performed_in.Given as goal

abbrev pub invariant-loop-k : goal.invariant-loop-k
invariant-loop-k l = is_performed_in (drop l.k l.marks) (lists_of (drop l.k l.texts)) l.para ≡ is_performed_in l.marks (lists_of l.texts) l.para
