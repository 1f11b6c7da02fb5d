use Rattle.std.proofs.Common.{◌≡◌, ◌+◌, refl, ap, ◌∙◌, arith}
use Rattle.std.specs.Prelude.{◌==◌}
use Rattle.std.specs.List.{filter, range_with_len}
use Rattle.analyse_core.specs.Firsts.{holds}
use Rattle.analyse_core.proofs.Chosen.{held_more}
use Rattle.analyse_core.proofs.choice.rising.Goals as goal

pub loop-k-preserved : goal.loop-k-preserved
loop-k-preserved c =
    let l = c.loop-k in
    held_more (holds (λ a b. a == b) c.args.cells.now) l.k (l.k + 1) l.list.items _ refl l.invariant c.in_ok-add_held.ensures

pub returns : goal.returns
returns c =
    let l = c.loop-k in
    let whole : l.k ≡ c.args.count = omega arith in
    l.invariant ∙ ap (λ n. filter (holds (λ a b. a == b) c.args.cells.now) (range_with_len 1 n)) whole
