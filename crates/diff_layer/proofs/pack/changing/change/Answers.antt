use Rattle.std.proofs.Common.{length, ◌∙◌, sym, ap}
use Rattle.edge_parts.specs.PartView.{plain_part}
use Rattle.cell_layer.specs.Kept.{latest_of}
use Rattle.diff_layer.specs.Views.{plain_pack, program_of, known_in}
use Rattle.diff_layer.specs.Changes.{part_changed}
use Rattle.diff_layer.proofs.pack.changing.change.Goals as goal

pub returns-in-CountDown-clause-value : goal.returns-in-CountDown-clause-value
returns-in-CountDown-clause-value c wrote written =
    let x = c.args in
    c.count_down.ensures.value x.moment.now.kept.common wrote
    ∙ sym (ap (λ y. part_changed (program_of x.moment.now.items) (known_in x.moment.now.items) x.moment.now.kept.common (latest_of x.moment.now.kept) wrote (plain_pack x.pack.now)
    (length x.pack.now.cells.now) x.pack.now.decimals (plain_part y) x.m.now) c.in-CountDown.is)
