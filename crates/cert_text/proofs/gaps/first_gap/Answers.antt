use Rattle.std.proofs.Common.{◌∙◌, sym, arith}
use Rattle.interval_domain.proofs.Flags.{said_reached}
use Rattle.interval_domain.proofs.Places.{reached_length}
use Rattle.cert_text.proofs.gaps.first_gap.Goals as goal

pub cells_gap-requires-clause-cells : goal.cells_gap-requires-clause-cells
cells_gap-requires-clause-cells c =
    let reached = said_reached c.args.row.now c.requires.said (sym c.is_reached.ensures ∙ c.if-not-is_reached.false) in
    let e = reached_length c.args.row.now reached in
    omega (arith, e, c.requires.width)
