use Rattle.std.proofs.Common.{◌≡◌, ◌-◌}
use Rattle.cob_typed_exprs.specs.Names.{qualifies, above_at}
use Rattle.cob_typed_exprs.proofs.names.Names.qualify.Given as goal

abbrev pub invariant-loop-step : goal.invariant-loop-step
invariant-loop-step l = qualifies l.left (above_at l.self (l.most - l.step) l.below l.above) ≡ qualifies l.of (above_at l.self l.most l.fn.place l.fn.parent)
