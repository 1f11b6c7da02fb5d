use Rattle.std.proofs.Common.{◌≡◌, ◌||◌, drop, Ok}
use Rattle.cob_runs.specs.Faults.{◌>>=◌}
use Rattle.cob_runs.specs.Deciding.{in_some}
use Rattle.cob_calc.specs.Comparing.{AreShortPairs}
use Rattle.cob_calc.proofs.contents.Contents.in_some.Given as goal

abbrev pub invariant-loop-pair : goal.invariant-loop-pair
invariant-loop-pair l = record {
  left : (in_some l.self.layout l.self.storage l.side (drop l.pair-index l.pairs) >>= λ others. Ok (l.found || others)) ≡ in_some l.self.layout l.self.storage l.side l.pairs;
  sound : AreShortPairs (drop l.pair-index l.pairs);
}
