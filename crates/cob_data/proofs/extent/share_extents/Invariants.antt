use Rattle.std.proofs.Common.{◌≡◌, false}
use Rattle.cob_data.specs.Extents.{start_of, any_below, meets_range}
use Rattle.cob_data.proofs.extent.share_extents.Given as goal

abbrev pub invariant-loop-number : goal.invariant-loop-number
invariant-loop-number l = any_below l.number (λ n. meets_range l.b (start_of l.a n) l.a.length) ≡ false
