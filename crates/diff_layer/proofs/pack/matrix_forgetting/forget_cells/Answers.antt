use Rattle.std.proofs.Common.{false, ◌∙◌, arith}
use Rattle.std.proofs.lemmas.List.{get_or_default}
use Rattle.diff_layer.proofs.Marks.{marks_all, marks_of, marks_step}
use Rattle.diff_layer.proofs.pack.matrix_forgetting.forget_cells.Goals as goal

pub returns-clause-value : goal.returns-clause-value
returns-clause-value c pack is_gone is =
    marks_of c.args.size is_gone pack c.args.gone.now c.args.m.now c.loop-k.m
    (marks_all c.args.size c.args.gone.now c.loop-k.k c.loop-k.m c.args.m.now (omega arith) c.loop-k.invariant.left) is

pub loop-k-preserved : goal.loop-k-preserved
loop-k-preserved c =
    let gone = c.args.gone.now in
    let k = c.loop-k.k in
    record {
      left = marks_step c.args.size gone k _ c.loop-k.m _ (omega arith) (get_or_default gone k false _ (omega arith)) c.forget_if.ensures.value
          ∙ c.loop-k.invariant.left;
      matrix = c.forget_if.ensures.matrix;
    }
