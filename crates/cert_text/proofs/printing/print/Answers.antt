use Rattle.std.proofs.Common.{map, length, ◌∷◌, [], ap, ◌∙◌, List, ℕ, ◌++◌}
use Rattle.std.proofs.lemmas.List.{length-map}
use Rattle.cert_text.specs.View.{place_of}
use Rattle.cert_text.specs.Text.{heading, pack_entry, nodes_entries, entry}
use Rattle.cert_text.specs.declared.word.Word.TheVariants as words
use Rattle.cert_text.proofs.Printed.{cert_printed, heading_counts}
use Rattle.cert_text.proofs.printing.print.Goals as goal

pub returns : goal.returns
returns c =
    let packs = map (λ p. p.cells.items) c.args.cert.now.packs.items in
    let nodes = map place_of c.args.cert.now.nodes.items in
    cert_printed (heading c.args.cert.now.cells (length nodes) (length packs)) (map pack_entry packs) (nodes_entries 1 nodes) (entry words.End [] ∷ [])
    c.new-text.result.items c.push_heading.new.text.items c.push_packs.new.text.items c.push_nodes.new.text.items c.push_end.new.text.items
    c.new-text.ensures.items
    (c.in_ok-push_heading.ensures ∙ ap (λ (t : List ℕ). c.new-text.result.items ++ t) (heading_counts c.args.cert.now.cells _ _ _ _ (length-map c.args.cert.now.nodes.items place_of) (length-map c.args.cert.now.packs.items (λ p. p.cells.items))))
    (rw c.as_slice.ensures.value at c.in_ok-push_packs.ensures)
    (rw c.as_slice-2.ensures.value at c.in_ok-push_nodes.ensures)
    c.in_ok-push_end.ensures
