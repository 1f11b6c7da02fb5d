use Rattle.std.proofs.Common.{ap, subst, sym, ◌∙◌}
use Rattle.cert_text.specs.View.{view}
use Rattle.cert_text.specs.Allowed.{IsAllowed}
use Rattle.cert_text.specs.MatrixClaims as matrices
use Rattle.cert_check.proofs.Beside.{listed_in, its_width, width_moved}
use Rattle.cert_check.proofs.packs.check_layer.Goals as goal

pub new-requires-clause-allowed : goal.new-requires-clause-allowed
new-requires-clause-allowed c =
    subst IsAllowed (sym c.requires.cert) c.requires.given.allowed

pub new-requires-clause-words : goal.new-requires-clause-words
new-requires-clause-words c =
    let listed = listed_in _ _ c.args.layer.now.listed in
    its_width _ _ _ _ c.requires.given _ c.requires.packs _ c.requires.cert _ listed c.words-words.result c.words-words.ensures

pub check_edges-requires-clause-cert : goal.check_edges-requires-clause-cert
check_edges-requires-clause-cert c =
    ap view c.in_ok-rows.ensures ∙ c.requires.cert

pub check_edges-requires-clause-out : goal.check_edges-requires-clause-out
check_edges-requires-clause-out c =
    let listed = listed_in _ _ c.args.layer.now.listed in
    width_moved _ _ _ _ c.requires.given _ c.requires.packs _ c.requires.cert _ listed _
    (c.as_mut_slice.ensures.len ∙ c.in_ok-out.ensures.len ∙ c.words-words.ensures)
