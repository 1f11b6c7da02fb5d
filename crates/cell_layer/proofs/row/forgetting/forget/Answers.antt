use Rattle.std.proofs.Common.{◌≡◌, ◌+◌, ◌∙◌, List, None, false, length, suc, ap, arith}
use Rattle.cob_runs.specs.declared.action.Cell.{Cell}
use Rattle.cob_graph.specs.Numbers.{items_of}
use Rattle.interval_domain.specs.Rows.{cells_of}
use Rattle.cell_layer.specs.Forgetting.{has_bytes, forgotten_at}
use Rattle.cell_layer.proofs.Forgotten.{through, through_length, through_next, through_all, item_got, items_length}
use Rattle.cell_layer.proofs.row.forgetting.forget.Goals as goal

pub forget_if-requires-clause-within : goal.forget_if-requires-clause-within
forget_if-requires-clause-within c =
    let x = c.args in
    let e = ap length c.loop-k.invariant.cells
    ∙ through_length (has_bytes x.items.now x.extent.now) c.loop-k.k (items_of x.cells.now) (cells_of x.row.now) in
    omega (arith, e, c.requires.whole)

pub loop-k-preserved : goal.loop-k-preserved
loop-k-preserved c =
    let x = c.args in
    let is_gone = has_bytes x.items.now x.extent.now in
    let os = items_of x.cells.now in
    let cs = cells_of x.row.now in
    let k = c.loop-k.k in
    let d : Cell = record { item = None; digits = 0; scale = 0; signed = false; times = 0 } in
    let many = items_length x.cells.now in
    let gone = c.has_bytes-gone.ensures ∙ ap is_gone (item_got x.cells.now k d (omega arith)) in
    record {
      reached = c.forget_if.ensures.reached;
      cells =
          c.forget_if.ensures.cells
          ∙ (ap (λ (ds : List _). forgotten_at ds k c.has_bytes-gone.result) c.loop-k.invariant.cells
          ∙ (through_next is_gone k os cs None c.has_bytes-gone.result (omega (arith, many)) (omega (arith, c.requires.whole)) gone
          ∙ ap (λ n. through is_gone n os cs) (let e : suc k ≡ k + 1 = omega arith in e)));
    }

pub returns-clause-cells : goal.returns-clause-cells
returns-clause-cells c =
    let x = c.args in
    let many = items_length x.cells.now in
    c.loop-k.invariant.cells
    ∙ through_all (has_bytes x.items.now x.extent.now) c.loop-k.k (items_of x.cells.now) (cells_of x.row.now)
    (omega (arith, many))
