use Rattle.std.proofs.Common.{◌∙◌, sym, ap}
use Rattle.cob_program.specs.LogicView.{plain_test}
use Rattle.transfer_ranges.specs.Members.{is_number_member, member_kept}
use Rattle.transfer_ranges.specs.Guards.{member_cut, guarded}
use Rattle.transfer_ranges.proofs.guards.guarded.Goals as goal

pub returns-in-Member : goal.returns-in-Member
returns-in-Member g c =
    let range = g.I.Ranges.range_at c.args.items.now in
    let l = c.args.layout.now in
    let item = c.in-Member.item in
    c.member_cut.ensures ∙ ap (λ ps. member_cut (is_number_member l item ps) item (member_kept range item ps c.args.wanted)) c.get.ensures
    ∙ ap (λ t. guarded l range (g.I.Items.numeric_at c.args.items.now) (plain_test t) c.args.wanted) (sym c.in-Member.is)
