use Rattle.cert_check.proofs.Beside.{listed_in, few_packs, small_packs, node_counted, reached_width, claimed_width, first_pack_gap, there_is_one}
use Rattle.std.proofs.Common.{◌∙◌}
use Rattle.cert_check.proofs.packs.gap_at.Goals as goal

pub row-requires-clause-last : goal.row-requires-clause-last
row-requires-clause-last c =
    node_counted _ _ _ _ c.requires.given _ c.requires.packs _ c.requires.cert c.led_to.result c.led_to.ensures.node.last

pub first_matrix_gap-requires-clause-few : goal.first_matrix_gap-requires-clause-few
first_matrix_gap-requires-clause-few c = few_packs _ _ _ _ c.requires.given _ c.requires.packs _ c.requires.cert

pub first_matrix_gap-requires-clause-small : goal.first_matrix_gap-requires-clause-small
first_matrix_gap-requires-clause-small c = small_packs _ _ _ _ c.requires.given _ c.requires.packs _ c.requires.cert

pub first_matrix_gap-requires-clause-reached : goal.first_matrix_gap-requires-clause-reached
first_matrix_gap-requires-clause-reached c =
    let listed = listed_in _ _ c.args.layer.now.listed in
    reached_width _ _ _ _ c.requires.given _ c.requires.packs _ c.requires.cert _ listed c.args.edge c.args.out.now c.requires.row c.requires.leak

pub first_matrix_gap-requires-clause-claimed : goal.first_matrix_gap-requires-clause-claimed
first_matrix_gap-requires-clause-claimed c =
    let listed = listed_in _ _ c.args.layer.now.listed in
    claimed_width _ _ _ _ c.requires.given _ c.requires.packs _ c.requires.cert _ listed c.led_to.result c.row.result.now c.row.ensures

pub unreachable-requires : goal.unreachable-requires
unreachable-requires c =
    let listed = listed_in _ _ c.args.layer.now.listed in
    there_is_one _ _ _ _ c.requires.given _ c.requires.packs _ c.requires.cert _ listed c.args.edge c.led_to.result c.args.out.now
    c.row.result.now c.requires.row c.row.ensures c.led_to.ensures.value c.first_matrix_gap.result c.first_matrix_gap.ensures c.in-None.is c.requires.leak

pub returns : goal.returns
returns c =
    let listed = listed_in _ _ c.args.layer.now.listed in
    first_pack_gap _ _ _ _ c.requires.given _ c.requires.packs _ c.requires.cert _ listed c.args.edge c.led_to.result c.args.out.now
    c.row.result.now c.requires.row c.row.ensures c.led_to.ensures.value c.first_matrix_gap.result c.first_matrix_gap.ensures
    ∙ c.in-Some.is
