use Rattle.std.proofs.Common.{arith, ◌≡◌, ◌∙◌, ap, sym, subst, suc, ◌+◌, length, slice_set, get_or, [], List, ℤ}
use Rattle.interval_domain.specs.Known.{Known, KnownWithin, widened_known}
use Rattle.interval_domain.specs.Rows.{cells_of, row_of, known_at, lists_of}
use Rattle.interval_domain.proofs.CellByCell.{spread, spread_length, spread_set, spread_all, within_length, within_at, lists_length}
use Rattle.interval_domain.proofs.widening.widen_cells.Goals as goal

pub list_at-list-requires : goal.list_at-list-requires
list_at-list-requires c =
    let e = within_length (lists_of c.args.thresholds.now) (cells_of c.args.b.now) c.requires.within in
    let f = lists_length c.args.thresholds.now in omega (arith, e, f, c.requires.of_b)

pub known_at-requires-clause-k : goal.known_at-requires-clause-k
known_at-requires-clause-k c =
    let e = ap (λ cs. length cs) c.loop-k.invariant.cells ∙ spread_length c.loop-k.k (lists_of c.args.thresholds.now) (cells_of c.args.a.now) (cells_of c.args.b.now) in omega (arith, e, c.requires.of_a)

pub set_known-requires-clause-k : goal.set_known-requires-clause-k
set_known-requires-clause-k c =
    let e = ap (λ cs. length cs) c.loop-k.invariant.cells ∙ spread_length c.loop-k.k (lists_of c.args.thresholds.now) (cells_of c.args.a.now) (cells_of c.args.b.now) in omega (arith, e, c.requires.of_a)

pub widen_known-known-requires-clause-b : goal.widen_known-known-requires-clause-b
widen_known-known-requires-clause-b c =
    subst (λ (ts : List ℤ). KnownWithin ts c.known_at-in-loop-k.result) (sym c.list_at-list.ensures)
    (subst (λ (x : Known). KnownWithin (get_or (lists_of c.args.thresholds.now) c.loop-k.k []) x) (sym c.known_at-in-loop-k.ensures.value)
    (within_at (lists_of c.args.thresholds.now) (cells_of c.args.b.now) c.loop-k.k c.requires.within (omega (arith, c.requires.of_b))))

pub returns : goal.returns
returns c =
    let tss = lists_of c.args.thresholds.now in
    let e = within_length tss (cells_of c.args.b.now) c.requires.within in
    c.loop-k.invariant.reached
    ∙ ap row_of (c.loop-k.invariant.cells ∙ spread_all c.loop-k.k tss (cells_of c.args.a.now) (cells_of c.args.b.now) (omega (arith, e, c.requires.of_b)) (omega (arith, c.requires.of_a)) (omega (arith, c.requires.of_b)))

pub loop-k-preserved : goal.loop-k-preserved
loop-k-preserved c =
    let tss = lists_of c.args.thresholds.now in
    let as_ = cells_of c.args.a.now in
    let bs = cells_of c.args.b.now in
    let k = c.loop-k.k in
    let e = within_length tss bs c.requires.within in
    let known =
    c.widen_known-known.ensures.value
    ∙ ap (λ (ts : List ℤ). widened_known ts c.known_at.result c.known_at-in-loop-k.result) c.list_at-list.ensures
    ∙ ap (λ (x : Known). widened_known (get_or tss k []) x c.known_at-in-loop-k.result) c.known_at.ensures.value
    ∙ ap (λ (y : Known). widened_known (get_or tss k []) (known_at (cells_of c.loop-k.a) k) y) c.known_at-in-loop-k.ensures.value in
    record {
      reached = c.set_known.ensures.reached;
      cells =
          c.set_known.ensures.cells
          ∙ ap (λ (x : Known). slice_set (cells_of c.loop-k.a) k x) known
          ∙ ap (λ (cs : List Known). slice_set cs k (widened_known (get_or tss k []) (known_at cs k) (known_at bs k))) c.loop-k.invariant.cells
          ∙ spread_set k tss as_ bs (omega (arith, e, c.requires.of_b)) (omega (arith, c.requires.of_a)) (omega (arith, c.requires.of_b))
          ∙ ap (λ n. spread n tss as_ bs) (let f : suc k ≡ k + 1 = omega arith in f);
    }
