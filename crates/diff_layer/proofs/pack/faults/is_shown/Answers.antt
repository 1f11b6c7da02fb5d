use Rattle.std.proofs.Common.{◌∙◌, sym, ap}
use Rattle.edge_parts.specs.PartView.{plain_part}
use Rattle.diff_layer.specs.Clears.{set_cleared, part_cleared}
use Rattle.diff_layer.specs.Walks.{seen2}
use Rattle.diff_layer.specs.Moments.{act_at, seen_at, packs_in, words_in}
use Rattle.diff_layer.specs.Views.{program_of}
use Rattle.diff_layer.proofs.pack.faults.is_shown.Goals as goal

pub returns-in-Size-fault : goal.returns-in-Size-fault
returns-in-Size-fault c wrote written =
    let x = c.args in
    c.set_clears.ensures wrote written
    ∙ (ap (λ y. set_cleared (program_of x.moment.now.items) (packs_in x.matrices.now) (act_at x.moment.now) x.moment.now.action (plain_part y) (seen_at x.moment.now) (seen2 wrote (words_in x.matrices.now))) c.in-SetCount.is
    ∙ sym (λ i. part_cleared (program_of x.moment.now.items) (packs_in x.matrices.now) (act_at x.moment.now) x.moment.now.action (plain_part (c.in-SetCount.is i)) (seen_at x.moment.now)
    (seen2 wrote (words_in x.matrices.now)) (c.in-Size-fault.is i)))
