use Rattle.std.proofs.Common.{sym, refl, slice_get}
use Rattle.std.proofs.lemmas.Option.{slice_get_read}
use Rattle.cob_typed_exprs.specs.Names.{item_name}
use Rattle.cob_typed_exprs.proofs.tables.items_table.Goals as goal

pub loop-item-init : goal.loop-item-init
loop-item-init c = c.new-table.ensures (λ place. item_name (slice_get c.args.items.now place))

pub loop-item-preserved : goal.loop-item-preserved
loop-item-preserved c =
    let here = slice_get_read c.args.items.now _ c.loop-item.item-index c.item-item.result refl c.loop-item-test.true c.item-item.is in
    c.in-Ok.ensures (λ place. item_name (slice_get c.args.items.now place)) c.loop-item.item-index c.loop-item.invariant (rw here (sym c.as_ref.ensures.value))
