use Rattle.std.proofs.Common.{◌+◌, arith}
use Rattle.std.proofs.lemmas.Option.{slice_get-get_or}
use Rattle.diff_bounds.specs.Matrix.{word}
use Rattle.diff_layer.proofs.KnownWords.{put_next, put_is}
use Rattle.diff_layer.proofs.pack.matrix_closing.put_all.Goals as goal

pub loop-k-preserved : goal.loop-k-preserved
loop-k-preserved c =
    let n = c.args.size + 1 in
    let k = c.loop-k.k in
    record {
      put = put_next c.args.size k (k + 1) c.args.cells.now _ (word n c.args.m.now) (word n c.loop-k.m) (word n c.put_known.new.m) (omega arith) (omega arith)
          (slice_get-get_or c.args.cells.now k _ (omega arith)) c.put_known.ensures.words c.loop-k.invariant.put;
      matrix = c.put_known.ensures.matrix;
    }

pub returns-clause-value : goal.returns-clause-value
returns-clause-value c =
    put_is c.args.size c.loop-k.k c.args.cells.now c.args.m.now c.loop-k.m (omega (arith, c.loop-k.invariant.matrix.width)) (omega arith) c.loop-k.invariant.put
