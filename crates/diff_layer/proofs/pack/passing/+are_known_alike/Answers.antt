use Rattle.cob_graph.specs.declared.homes.Home.TheVariants.{Item}
use Rattle.diff_layer.specs.Closed.{IsKnownAlike}
use Rattle.diff_layer.specs.Passed.{program_in, known_before, known_behind}
use Rattle.diff_layer.proofs.Idle.{all_cells}
use Rattle.diff_layer.proofs.pack.passing.+are_known_alike.Goals as goal

pub returns-then-is_known_alike : goal.returns-then-is_known_alike
returns-then-is_known_alike t c rest =
    let x = c.args in
    all_cells (IsKnownAlike (program_in x.passed.now) (known_before x.passed.now) (known_behind x.passed.now)) x.pack.now (Item 0) c.in-len1-up.len_at_least
    (c.is_known_alike.ensures c.if-is_known_alike.true) (c.are_known_alike.ensures rest)
