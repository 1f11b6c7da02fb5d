use Rattle.std.proofs.Common.{refl, slice_get}
use Rattle.std.proofs.lemmas.Option.{slice_get_read}
use Rattle.cob_typed_exprs.specs.Search.{flag_name}
use Rattle.cob_typed_exprs.proofs.tables.flags_table.Goals as goal

pub loop-flag-init : goal.loop-flag-init
loop-flag-init c = c.new-table.ensures (λ place. flag_name (slice_get c.args.flags.now place))

pub loop-flag-preserved : goal.loop-flag-preserved
loop-flag-preserved c =
    let here = slice_get_read c.args.flags.now _ c.loop-flag.flag-index c.flag-item.result refl c.loop-flag-test.true c.flag-item.is in
    c.in-Ok.ensures (λ place. flag_name (slice_get c.args.flags.now place)) c.loop-flag.flag-index c.loop-flag.invariant (rw here)
