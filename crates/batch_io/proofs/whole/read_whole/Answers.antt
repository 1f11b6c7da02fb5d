use Rattle.std.proofs.Common.{length-take, arith}
use Rattle.std.proofs.lemmas.Result.{err_from_is_err_and}
use Rattle.batch_io.proofs.WholeLemmas.{reads_long, reads_unkept}
use Rattle.batch_io.proofs.whole.read_whole.Goals as goal

pub returns-then-count-limit : goal.returns-then-count-limit
returns-then-count-limit g c =
    let kept = c.loop-bytes.invariant in
    let size = c.loop-bytes.bytes.ok.0 in
    reads_long _ _ _ c.args.id c.args.limit c.loop-bytes.bytes.items c.read.new.buf c.in_ok-count.count
    kept.gives kept.reading kept.writing c.in_ok-count.ensures.call (omega arith) (omega (arith, c.read.auto.buf, length-take c.min-room.result c.loop-bytes.chunk)) (omega arith)

pub returns-in_err-extend_from_slice : goal.returns-in_err-extend_from_slice
returns-in_err-extend_from_slice g c =
    let kept = c.loop-bytes.invariant in
    let size = c.loop-bytes.bytes.ok.0 in
    let end = err_from_is_err_and c.from_residual-in_err-extend_from_slice.result c.from_residual-in_err-extend_from_slice.ensures.1 in
    rw (end.1, end.2) (reads_unkept _ _ _ c.args.id c.args.limit c.loop-bytes.bytes.items c.read.new.buf c.in_ok-count.count
    kept.gives kept.reading kept.writing c.in_ok-count.ensures.call (omega arith) (omega arith))
