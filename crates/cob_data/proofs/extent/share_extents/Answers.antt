use Rattle.std.proofs.Common.{true, sym, ◌∙◌, length}
use Rattle.cob_data.specs.Extents.{start_of, meets_range}
use Rattle.cob_data.proofs.Meeting.{any_is}
use Rattle.cob_data.proofs.extent.share_extents.Goals as goal

pub returns-then-meets : goal.returns-then-meets
returns-then-meets c =
    sym (any_is c.args.a.now.times (λ n. meets_range c.args.b.now (start_of c.args.a.now n) c.args.a.now.length) c.loop-number.number c.loop-number-test.true
    (sym c.meets.ensures ∙ c.if-meets.true))
