use Rattle.std.proofs.Common.{sym, ap, ◌∙◌}
use Rattle.std.specs.Option.{option_map}
use Rattle.cob_program.specs.ActView.{plain_program}
use Rattle.edge_parts.specs.PartView.{plain_part}
use Rattle.cell_layer.proofs.Stepping.{small_part}
use Rattle.cell_layer.proofs.edge.walking.walk.Goals as goal

pub pass-passed-requires-clause-small : goal.pass-passed-requires-clause-small
pass-passed-requires-clause-small c =
    let x = c.args in
    small_part (plain_program x.program.now) x.action x.statement.now x.part (plain_part c.in-Some.found) c.requires.small
    (sym c.part_at.ensures ∙ ap (option_map plain_part) c.in-Some.is)
