use Rattle.std.proofs.Common.{subst, sym, ◌∙◌}
use Rattle.cob_tree.specs.Kinds.{has, kinds_of}
use Rattle.cob_tree.proofs.KindLaws.{has_kinds_of, same_kinds}
use Rattle.dom_laws.specs.Lattice.{IsElement}
use Rattle.cert_check.proofs.Asking.{clears_tell}
use Rattle.cert_check.proofs.nodes.clears_all.Goals as goal

pub cleared-requires-clause-row : goal.cleared-requires-clause-row
cleared-requires-clause-row g c =
    subst (IsElement (g.L.Domain.lattice c.args.layer.now)) (sym c.row.ensures) (c.requires.rows c.args.node c.requires.node)

pub returns : goal.returns
returns g c = λ clears tell.
    let node = c.args.node in
    same_kinds c.cleared.result (kinds_of (clears node)) (λ kind.
    clears_tell (has c.cleared.result kind) (clears node kind) (λ row. (g.L.Layer.meaning c.args.layer.now).Clears node row kind)
    c.row.result.now (g.R.Rows.row_at c.args.rows.now node) c.row.ensures (c.cleared.ensures kind) (tell node kind c.requires.node)
    ∙ sym (has_kinds_of (clears node) kind))
