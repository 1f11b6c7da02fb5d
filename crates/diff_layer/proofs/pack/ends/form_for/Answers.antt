use Rattle.std.proofs.Common.{◌∙◌, sym, ap}
use Rattle.edge_parts.specs.PartView.{plain_part}
use Rattle.diff_layer.specs.Views.{plain_pack, program_of, known_in}
use Rattle.diff_layer.specs.Ends.{part_form}
use Rattle.diff_layer.proofs.pack.ends.form_for.Goals as goal

pub returns-in-CountDown-clause-value : goal.returns-in-CountDown-clause-value
returns-in-CountDown-clause-value c wrote written =
    let x = c.args in
    c.lowered_form.ensures.value x.moment.now.kept.common wrote
    ∙ sym (ap (λ y. part_form (program_of x.moment.now.items) (known_in x.moment.now.items) x.moment.now.kept.common wrote (plain_part y) (plain_pack x.pack.now)) c.in-CountDown.is)
