use Rattle.std.proofs.Common.{ap, ◌∙◌}
use Rattle.cob_tree.specs.Forms.{is_number_form}
use Rattle.edge_parts.proofs.FormLemmas.{form_found}
use Rattle.edge_parts.proofs.part_items.is_number_at.Goals as goal

pub returns-in-Some : goal.returns-in-Some
returns-in-Some c =
    let l = c.args.layout.now in
    c.is_number_form.ensures
    ∙ ap is_number_form (form_found l c.args.place c.item_at.result c.in-Some.item c.item_at.ensures c.in-Some.is)
