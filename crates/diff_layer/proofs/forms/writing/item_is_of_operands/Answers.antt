use Rattle.std.proofs.Common.{◌∙◌, sym, ap}
use Rattle.std.specs.Option.{option_copied}
use Rattle.cob_program.specs.ActView.{plain_act}
use Rattle.diff_layer.specs.Writing.{edge_items}
use Rattle.diff_layer.proofs.Items.{missing_item}
use Rattle.diff_layer.proofs.forms.writing.item_is_of_operands.Goals as goal

pub returns-in-None : goal.returns-in-None
returns-in-None c =
    missing_item c.args.layout.now c.args.place (edge_items (plain_act c.args.act.now) c.args.action)
    (sym c.item_at.ensures ∙ ap option_copied c.in-None.is)
