use Rattle.std.proofs.Common.{◌<◌, ◌+◌, ◌∙◌, None, false, length, take, sym, ap, subst, arith}
use Rattle.std.proofs.lemmas.List.{length-set}
use Rattle.cob_runs.specs.declared.action.Cell.{Cell}
use Rattle.interval_domain.specs.Known.{IsOrdered}
use Rattle.interval_domain.specs.Rows.{cells_of, row_of}
use Rattle.cell_layer.specs.Firsts.{first_cells}
use Rattle.cell_layer.proofs.FirstCells.{first_ordered, first_got, one_more, all_set, firsts_many}
use Rattle.cell_layer.proofs.layer.firsts.set_firsts.Goals as goal

pub set_known-requires-clause-k : goal.set_known-requires-clause-k
set_known-requires-clause-k c = let many = c.loop-k.invariant.many in omega (arith, many)

pub set_known-requires-clause-ordered : goal.set_known-requires-clause-ordered
set_known-requires-clause-ordered c =
    subst IsOrdered (sym c.known_of_cell-known.ensures) (first_ordered c.args.layout.now _)

pub loop-k-preserved : goal.loop-k-preserved
loop-k-preserved c =
    let x = c.args in
    let k = c.loop-k.k in
    let now = cells_of c.loop-k.row in
    let d : Cell = record { item = None; digits = 0; scale = 0; signed = false; times = 0 } in
    let many = c.loop-k.invariant.many in
    let inside : k < length x.cells.now = omega arith in
    let as_many = firsts_many x.layout.now x.cells.now in
    record {
      reached = c.set_known.ensures.reached;
      many = ap length c.set_known.ensures.cells ∙ (length-set now k c.known_of_cell-known.result ∙ many);
      front =
          ap (λ ks. take (k + 1) ks) c.set_known.ensures.cells
          ∙ one_more k now (first_cells x.layout.now x.cells.now) c.known_of_cell-known.result (omega (arith, many, inside))
          (omega (arith, as_many, inside)) c.loop-k.invariant.front
          (c.known_of_cell-known.ensures ∙ sym (first_got x.layout.now x.cells.now k d inside));
    }

pub returns : goal.returns
returns c =
    let x = c.args in
    let k = c.loop-k.k in
    let many = c.loop-k.invariant.many in
    let as_many = firsts_many x.layout.now x.cells.now in
    c.loop-k.invariant.reached
    ∙ ap row_of (all_set k (cells_of c.loop-k.row) (first_cells x.layout.now x.cells.now) (omega (arith, many)) (omega (arith, as_many))
    c.loop-k.invariant.front)
