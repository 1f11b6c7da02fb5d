use Rattle.std.proofs.Common.{subst}
use Rattle.cob_program.specs.Act.{Act}
use Rattle.edge_parts.specs.PartView.{plain_part}
use Rattle.cell_laws.specs.Sizes.{IsSmallPart}
use Rattle.cell_layer.specs.Works.{program_of}
use Rattle.cell_layer.proofs.Stepping.{act_same}
use Rattle.cell_layer.proofs.edge.walking.walk_part.Goals as goal

pub pass-passed-requires-clause-small : goal.pass-passed-requires-clause-small
pass-passed-requires-clause-small c =
    let w = c.args.work.now in
    subst (λ (a : Act). IsSmallPart (program_of w) a w.action (plain_part c.args.part)) (act_same w.statement.now) c.requires.small
