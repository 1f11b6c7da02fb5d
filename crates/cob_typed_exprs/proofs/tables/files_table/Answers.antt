use Rattle.std.proofs.Common.{refl, slice_get}
use Rattle.std.proofs.lemmas.Option.{slice_get_read}
use Rattle.cob_typed_exprs.specs.Search.{file_name}
use Rattle.cob_typed_exprs.proofs.tables.files_table.Goals as goal

pub loop-file-init : goal.loop-file-init
loop-file-init c = c.new-table.ensures (λ place. file_name (slice_get c.args.files.now place))

pub loop-file-preserved : goal.loop-file-preserved
loop-file-preserved c =
    let here = slice_get_read c.args.files.now _ c.loop-file.file-index c.file-item.result refl c.loop-file-test.true c.file-item.is in
    c.in-Ok.ensures (λ place. file_name (slice_get c.args.files.now place)) c.loop-file.file-index c.loop-file.invariant (rw here)
