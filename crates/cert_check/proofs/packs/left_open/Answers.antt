use Rattle.cert_check.proofs.Beside.{listed_in, nodes_counted, kept_moved_back, accepts_packs}
use Rattle.cert_check.proofs.packs.left_open.Goals as goal

pub open_pairs-requires-clause-count : goal.open_pairs-requires-clause-count
open_pairs-requires-clause-count c =
    nodes_counted _ _ _ _ c.requires.given _ c.requires.packs _ c.requires.cert

pub open_pairs-requires-clause-inductive : goal.open_pairs-requires-clause-inductive
open_pairs-requires-clause-inductive c =
    let listed = listed_in _ _ c.args.layer.now.listed in
    kept_moved_back _ _ _ _ c.requires.given _ c.requires.packs _ c.requires.cert _ listed c.requires.kept

pub returns : goal.returns
returns c =
    let listed = listed_in _ _ c.args.layer.now.listed in
    accepts_packs _ _ _ _ c.requires.given _ c.requires.packs _ c.requires.cert _ listed c.requires.inductive c.in_ok-pairs.pairs.items c.requires.some c.requires.kept c.in_ok-pairs.ensures
