use Rattle.cob_program.specs.ActView.{plain_program}
use Rattle.interval_domain.specs.Rows.{lists_of}
use Rattle.cell_ranges.proofs.Sources.{lists_are_short, thresholds_of}
use Rattle.cert_check.proofs.certificate.check_rows.Goals as goal

pub new-requires-clause-lists : goal.new-requires-clause-lists
new-requires-clause-lists c = lists_are_short c.args.ends.now c.args.ranges.now c.requires.ends

pub new-requires-clause-ends : goal.new-requires-clause-ends
new-requires-clause-ends c =
    thresholds_of (plain_program c.args.program.now) c.args.ranges.now (lists_of c.args.ends.now) c.requires.given.own c.requires.ends
