use Rattle.std.proofs.Common.{◌≡◌, true, false, sym, ◌∙◌}
use Rattle.cob_interp.proofs.Flushing.{none_waits}
use Rattle.cob_interp.proofs.walk.flush_before.Goals as goal

pub returns-then-is_flushed_before-clause-first : goal.returns-then-is_flushed_before-clause-first
returns-then-is_flushed_before-clause-first g c = none_waits _ _ _ _ _ _ c.flush.ensures.flushes

pub returns-else-is_flushed_before-clause-first : goal.returns-else-is_flushed_before-clause-first
returns-else-is_flushed_before-clause-first g c = λ first.
    let e : true ≡ false = sym (c.is_flushed_before.ensures first) ∙ c.if-is_flushed_before.false in cc
