use Rattle.std.proofs.Common.{ap, ◌∙◌}
use Rattle.std.proofs.lemmas.List.{get_or_default, take_all}
use Rattle.pack_laws.specs.Packs.{pack_in}
use Rattle.diff_layer.proofs.Steps.{cell_pushed}
use Rattle.diff_layer.proofs.layer.planning.cells_with.Goals as goal

pub loop-number-preserved : goal.loop-number-preserved
loop-number-preserved c =
    let l = c.loop-number in
    cell_pushed _ _ _ c.args.homes.now c.args.numbers.now l.number-index _ c.loop-number-test.true
    (get_or_default c.args.numbers.now l.number-index 0 _ c.loop-number-test.true) c.in_ok-push.ensures.items l.invariant c.cell_with.ensures

pub returns : goal.returns
returns c =
    let l = c.loop-number in
    l.invariant ∙ ap (pack_in c.args.homes.now) (take_all l.number-index c.args.numbers.now c.loop-number-test.false)
