use Rattle.std.proofs.Common.{◌≡◌, length, ap, ◌∙◌, arith}
use Rattle.std.proofs.lemmas.List.{length-map}
use Rattle.cell_steps.specs.OwnRanges.{own_range}
use Rattle.analyse_core.proofs.listing.all_thresholds.Goals as goal

pub bounds-owns-k : goal.bounds-owns-k
bounds-owns-k c =
    let wide : length c.args.owns.now ≡ length c.args.cells.now = ap length c.requires.owns ∙ length-map c.args.cells.now own_range in
    omega (arith, wide)

pub range_thresholds-requires-clause-own : goal.range_thresholds-requires-clause-own
range_thresholds-requires-clause-own c =
    let wide : length c.args.owns.now ≡ length c.args.cells.now = ap length c.requires.owns ∙ length-map c.args.cells.now own_range in
    c.requires.small c.loop-k.k _ (omega (arith, wide))
