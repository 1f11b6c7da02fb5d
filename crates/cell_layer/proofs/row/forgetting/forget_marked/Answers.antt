use Rattle.std.proofs.Common.{◌≡◌, ◌+◌, ◌∙◌, List, false, length, suc, ap, get_or, refl, arith}
use Rattle.interval_domain.specs.Rows.{cells_of}
use Rattle.cell_layer.specs.Forgetting.{forgotten_at}
use Rattle.cell_layer.proofs.Forgotten.{through, through_length, through_next, through_all}
use Rattle.cell_layer.proofs.row.forgetting.forget_marked.Goals as goal

pub forget_if-requires-clause-within : goal.forget_if-requires-clause-within
forget_if-requires-clause-within c =
    let x = c.args in
    let e = ap length c.loop-k.invariant.cells ∙ through_length (λ gone. gone) c.loop-k.k x.marks.now (cells_of x.row.now) in
    omega (arith, e, c.requires.whole)

pub loop-k-preserved : goal.loop-k-preserved
loop-k-preserved c =
    let x = c.args in
    let marks = x.marks.now in
    let cs = cells_of x.row.now in
    let k = c.loop-k.k in
    record {
      reached = c.forget_if.ensures.reached;
      cells =
          c.forget_if.ensures.cells
          ∙ (ap (λ (ds : List _). forgotten_at ds k (get_or marks k false)) c.loop-k.invariant.cells
          ∙ (through_next (λ gone. gone) k marks cs false (get_or marks k false) (omega arith) (omega (arith, c.requires.whole)) refl
          ∙ ap (λ n. through (λ gone. gone) n marks cs) (let e : suc k ≡ k + 1 = omega arith in e)));
    }

pub returns-clause-cells : goal.returns-clause-cells
returns-clause-cells c =
    let x = c.args in
    c.loop-k.invariant.cells ∙ through_all (λ gone. gone) c.loop-k.k x.marks.now (cells_of x.row.now) (omega arith)
