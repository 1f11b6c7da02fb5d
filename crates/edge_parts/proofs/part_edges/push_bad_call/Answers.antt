use Rattle.std.proofs.Common.{sym, ◌∙◌}
use Rattle.cob_program.specs.ActView.{plain_act, plain_program}
use Rattle.edge_parts.specs.PartView.{plain_part}
use Rattle.edge_parts.proofs.EdgeLemmas.{parts_of_bad_read, parts_of_bad_call}
use Rattle.edge_parts.proofs.HandingLaws.{takes_same}
use Rattle.edge_parts.proofs.part_edges.push_bad_call.Goals as goal

pub returns-in-Some : goal.returns-in-Some
returns-in-Some c = λ number.
    let x = c.args in
    takes_same plain_part _ _ _ _ _
    (parts_of_bad_read (plain_program x.program.now) number x.place (plain_act x.act.now) c.in-Some.file
    (sym c.file_read.ensures ∙ c.in-Some.is))
    c.push_file_at.ensures

pub returns-in-None : goal.returns-in-None
returns-in-None c = λ number.
    let x = c.args in
    takes_same plain_part _ _ _ _ _
    (parts_of_bad_call (plain_program x.program.now) number x.place (plain_act x.act.now) (sym c.file_read.ensures ∙ c.in-None.is))
    (c.push_call.ensures number)
