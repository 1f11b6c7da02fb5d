use Rattle.std.proofs.Common.{[], ◌∷◌, pos, map}
use Rattle.cert_text.specs.declared.word.Word.TheVariants as words
use Rattle.cert_text.specs.Text.{entry, claim_entry, bound_entry}
use Rattle.cert_text.proofs.Printed.{node_printed}
use Rattle.std.proofs.lemmas.Result.{on_ok_weaker}
use Rattle.cert_text.proofs.printing.push_node.Goals as goal

pub returns-in_ok-push_claims-in-At : goal.returns-in_ok-push_claims-in-At
returns-in_ok-push_claims-in-At c =
    rw c.in-At.is (on_ok_weaker c.push_bounds.result (λ e. node_printed c.args.text.now.items (entry words.Node (pos c.args.number ∷ []) ∷ []) (map claim_entry c.in-At.cells.items) (map bound_entry c.in-At.bounds.items) c.push_line-in-At.new.text.items c.push_claims.new.text.items c.push_bounds.new.text.items c.in_ok-push_line-in-At.ensures (rw c.as_slice.ensures.value at c.in_ok-push_claims-in-At.ensures) (rw c.as_slice-in-At.ensures.value at e)) c.push_bounds.ensures)
