use Rattle.std.proofs.Common.{arith, ◌≡◌, ◌∙◌, ap, suc, ◌+◌, length, slice_set}
use Rattle.interval_domain.specs.Known.{joined_known}
use Rattle.interval_domain.specs.Rows.{cells_of, row_of, known_at}
use Rattle.interval_domain.proofs.CellByCell.{merged, merged_length, merged_set, merged_all}
use Rattle.interval_domain.proofs.joining.join_cells.Goals as goal

pub known_at-requires-clause-k : goal.known_at-requires-clause-k
known_at-requires-clause-k c =
    let e = ap (λ cs. length cs) c.loop-k.invariant.cells ∙ merged_length c.loop-k.k (cells_of c.args.a.now) (cells_of c.args.b.now) in omega (arith, e, c.requires.of_a)

pub set_known-requires-clause-k : goal.set_known-requires-clause-k
set_known-requires-clause-k c =
    let e = ap (λ cs. length cs) c.loop-k.invariant.cells ∙ merged_length c.loop-k.k (cells_of c.args.a.now) (cells_of c.args.b.now) in omega (arith, e, c.requires.of_a)

pub returns : goal.returns
returns c = c.loop-k.invariant.reached ∙ ap row_of (c.loop-k.invariant.cells ∙ merged_all c.loop-k.k (cells_of c.args.a.now) (cells_of c.args.b.now) (omega (arith, c.requires.of_a)) (omega (arith, c.requires.of_b)))

pub loop-k-preserved : goal.loop-k-preserved
loop-k-preserved c =
    let as_ = cells_of c.args.a.now in
    let bs = cells_of c.args.b.now in
    let k = c.loop-k.k in
    let cell = c.join_known-known.ensures.value ∙ ap (λ x. joined_known x c.known_at-in-loop-k.result) c.known_at.ensures.value ∙ ap (λ y. joined_known (known_at (cells_of c.loop-k.a) k) y) c.known_at-in-loop-k.ensures.value in
    record {
      reached = c.set_known.ensures.reached;
      cells =
          c.set_known.ensures.cells
          ∙ ap (λ x. slice_set (cells_of c.loop-k.a) k x) cell
          ∙ ap (λ cs. slice_set cs k (joined_known (known_at cs k) (known_at bs k))) c.loop-k.invariant.cells
          ∙ merged_set k as_ bs (omega (arith, c.requires.of_a)) (omega (arith, c.requires.of_b))
          ∙ ap (λ n. merged n as_ bs) (let e : suc k ≡ k + 1 = omega arith in e);
    }
