use Rattle.std.proofs.Common.{◌≡◌, drop}
use Rattle.analyse_core.specs.Reaching.{is_performed}
use Rattle.analyse_core.proofs.reaching.is_performed.Given as goal

abbrev pub invariant-loop-mention : goal.invariant-loop-mention
invariant-loop-mention l = is_performed l.para (drop l.mention-index l.mentions) ≡ is_performed l.para l.mentions
