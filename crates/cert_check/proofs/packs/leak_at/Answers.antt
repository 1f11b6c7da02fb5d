use Rattle.cert_check.proofs.Beside.{listed_in, nodes_counted, bounds_are_elements, arrives_moved, width_moved_back, refuses_packs}
use Rattle.cert_check.proofs.packs.leak_at.Goals as goal

pub arrive-requires-clause-count : goal.arrive-requires-clause-count
arrive-requires-clause-count c =
    nodes_counted _ _ _ _ c.requires.given _ c.requires.packs _ c.requires.cert

pub arrive-requires-clause-rows : goal.arrive-requires-clause-rows
arrive-requires-clause-rows c =
    let listed = listed_in _ _ c.args.layer.now.listed in
    bounds_are_elements _ _ _ _ c.requires.given _ c.requires.packs _ c.requires.cert _ listed

pub arrive-requires-clause-out : goal.arrive-requires-clause-out
arrive-requires-clause-out c =
    let listed = listed_in _ _ c.args.layer.now.listed in
    width_moved_back _ _ _ _ c.requires.given _ c.requires.packs _ c.requires.cert _ listed _ c.requires.out

pub gap_at-gap-requires-clause-row : goal.gap_at-gap-requires-clause-row
gap_at-gap-requires-clause-row c =
    let listed = listed_in _ _ c.args.layer.now.listed in
    arrives_moved _ _ _ _ c.requires.given _ c.requires.packs _ c.requires.cert _ listed c.args.edge c.arrive.new.out c.arrive.ensures.row

pub returns : goal.returns
returns c =
    let listed = listed_in _ _ c.args.layer.now.listed in
    refuses_packs _ _ _ _ c.requires.given _ c.requires.packs _ c.requires.cert _ listed c.requires.inductive c.args.edge c.gap_at-gap.result c.requires.leak c.gap_at-gap.ensures
