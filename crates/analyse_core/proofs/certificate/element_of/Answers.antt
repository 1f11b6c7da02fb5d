use Rattle.std.proofs.Common.{◌∙◌, sym, arith}
use Rattle.interval_domain.proofs.Flags.{said_reached}
use Rattle.interval_domain.proofs.Places.{reached_length}
use Rattle.analyse_core.proofs.certificate.element_of.Goals as goal

pub claims_of-requires-clause-cells : goal.claims_of-requires-clause-cells
claims_of-requires-clause-cells c =
    let reached = said_reached c.args.row.now c.requires.row.said (sym c.is_reached.ensures ∙ c.if-not-is_reached.false) in
    let e = reached_length c.args.row.now reached in
    let width = c.requires.row.width in
    omega (arith, e, width)
