use Rattle.std.proofs.Common.{◌≡◌, ◌≤◌, ◌+◌, ◌*◌, ◌∙◌, ◌++◌, ◌∷◌, [], length, take, List, ℤ, Vec, sym, ap, subst, arith}
use Rattle.std.specs.declared.alloc.Global.{Global}
use Rattle.std.proofs.lemmas.List.{take_more}
use Rattle.interval_domain.specs.Elements.{cells_height}
use Rattle.interval_domain.specs.Rows.{lists_of}
use Rattle.cell_layer.proofs.Heights.{lists_more}
use Rattle.cell_layer.proofs.layer.domain.height_of.Goals as goal

pub loop-list-preserved : goal.loop-list-preserved
loop-list-preserved c =
    let xs = c.args.thresholds.now in
    let i = c.loop-list.list-index in
    let x = c.list-item.result in
    let within = c.loop-list-test.true in
    let here = c.list-item.is in
    let more : cells_height (lists_of (take (i + 1) xs)) ≡ cells_height (lists_of (take i xs)) + (2 * length x.items + 1) =
    ap (λ ls. cells_height (lists_of ls)) (take_more xs i x within ∙ ap (λ y. take i xs ++ y ∷ []) (sym here))
    ∙ lists_more (take i xs) x in
    let long : length x.items ≤ 128 = subst (λ (y : Vec ℤ Global). length y.items ≤ 128) (sym here) (c.requires.lists i x within) in
    let same : length c.as_slice.result.now ≡ length x.items = ap (λ (ts : List ℤ). length ts) c.as_slice.ensures.value in
    record {
      height = omega (arith, more, c.loop-list.invariant.height, same);
      most = omega (arith, long, c.loop-list.invariant.most, same);
    }
