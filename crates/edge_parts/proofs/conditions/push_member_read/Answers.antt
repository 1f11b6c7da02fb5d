use Rattle.edge_parts.proofs.DivisorLemmas.{some_of}
use Rattle.edge_parts.proofs.EndLoops.{member_cut}
use Rattle.edge_parts.specs.PartView.{plain_part}
use Rattle.edge_parts.proofs.HandingLaws.{both_of, stops_of}
use Rattle.edge_parts.proofs.conditions.push_member_read.Goals as goal

pub returns-in_err-push_text_side_read : goal.returns-in_err-push_text_side_read
returns-in_err-push_text_side_read c =
    rw c.from_residual.ensures
    (stops_of plain_part _ _ _ _ _ (member_cut c.args.layout.now c.args.item c.args.pairs.now (some_of _ _ c.is_empty.ensures c.if-is_empty.false)) c.in_err-push_text_side_read.ensures)

pub returns : goal.returns
returns c =
    both_of plain_part _ _ _ _ _ _ _ (member_cut c.args.layout.now c.args.item c.args.pairs.now (some_of _ _ c.is_empty.ensures c.if-is_empty.false))
    c.in_ok-push_text_side_read.ensures c.push_ends_read.ensures
