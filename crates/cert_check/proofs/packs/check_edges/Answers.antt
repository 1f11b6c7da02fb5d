use Rattle.std.proofs.Common.{ap}
use Rattle.std.specs.Prelude.{is_some}
use Rattle.cert_check.proofs.Beside.{listed_in, nodes_counted, bounds_are_elements, width_moved_back, leak_moved, kept_moved}
use Rattle.cert_check.proofs.packs.check_edges.Goals as goal

pub pass-requires-clause-count : goal.pass-requires-clause-count
pass-requires-clause-count c =
    nodes_counted _ _ _ _ c.requires.given _ c.requires.packs _ c.requires.cert

pub pass-requires-clause-rows : goal.pass-requires-clause-rows
pass-requires-clause-rows c =
    let listed = listed_in _ _ c.args.layer.now.listed in
    bounds_are_elements _ _ _ _ c.requires.given _ c.requires.packs _ c.requires.cert _ listed

pub pass-requires-clause-out : goal.pass-requires-clause-out
pass-requires-clause-out c =
    let listed = listed_in _ _ c.args.layer.now.listed in
    width_moved_back _ _ _ _ c.requires.given _ c.requires.packs _ c.requires.cert _ listed _ c.requires.out

pub leak_at-requires-clause-leak : goal.leak_at-requires-clause-leak
leak_at-requires-clause-leak c =
    let listed = listed_in _ _ c.args.layer.now.listed in
    leak_moved _ _ _ _ c.requires.given _ c.requires.packs _ c.requires.cert _ listed c.in-Some.edge c.in-Some.ensures.first

pub left_open-requires-clause-kept : goal.left_open-requires-clause-kept
left_open-requires-clause-kept c =
    let listed = listed_in _ _ c.args.layer.now.listed in
    kept_moved _ _ _ _ c.requires.given _ c.requires.packs _ c.requires.cert _ listed (c.pass.ensures.none.0 (ap is_some c.in-None.is))
