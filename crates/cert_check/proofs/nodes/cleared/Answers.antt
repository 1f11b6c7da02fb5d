use Rattle.std.proofs.Common.{sym, ap, subst, length, ◌∙◌, arith}
use Rattle.cert_check.specs.Clearing.{AreClearedTo}
use Rattle.cert_check.proofs.Noting.{written_back, none_noted}
use Rattle.cert_check.proofs.nodes.cleared.Goals as goal

pub note_nodes-requires-clause-lent : goal.note_nodes-requires-clause-lent
note_nodes-requires-clause-lent g c = c.as_mut_slice.ensures.len ∙ c.in_ok-lent.ensures.len ∙ c.lent_words.ensures

pub returns-clause-cleared : goal.returns-clause-cleared
returns-clause-cleared g c = λ clears tell.
    let graph = c.args.graph.now in
    let kept = c.note_nodes.auto.noted in
    let len = c.as_mut_slice-2.ensures.len in
    subst (AreClearedTo graph clears (length graph.nodes))
    (sym (written_back c.note_nodes.new.noted c.in_ok-noted.noted.items c.in_ok-noted.noted.len (omega (arith, kept, len))))
    (c.note_nodes.ensures clears tell)

pub returns-clause-count : goal.returns-clause-count
returns-clause-count g c =
    let kept = c.note_nodes.auto.noted in
    let len = c.as_mut_slice-2.ensures.len in
    ap length (written_back c.note_nodes.new.noted c.in_ok-noted.noted.items c.in_ok-noted.noted.len (omega (arith, kept, len)))
    ∙ kept ∙ len ∙ c.in_ok-noted.ensures.len
