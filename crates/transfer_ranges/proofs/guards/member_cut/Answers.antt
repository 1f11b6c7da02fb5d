use Rattle.transfer_ranges.proofs.MemberCode.{member_gives}
use Rattle.transfer_ranges.proofs.guards.member_cut.Goals as goal

pub returns-then-is_number_member : goal.returns-then-is_number_member
returns-then-is_number_member g c =
    member_gives (g.R.Ranges.range_at c.args.ranges.now) c.args.item c.args.pairs.now c.args.wanted _ c.range.result c.pairs_kept.result c.one_cut.result c.one_cut.ensures c.pairs_kept.ensures c.range.ensures c.if-is_number_member.ensures
