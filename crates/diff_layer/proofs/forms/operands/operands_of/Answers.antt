use Rattle.std.proofs.Common.{◌∙◌}
use Rattle.transfer_ranges.specs.AmountView.{plain_amount}
use Rattle.cell_layer.proofs.ShortBounds.{bounded}
use Rattle.cell_layer.proofs.ShortAnswers.{operands_are}
use Rattle.diff_layer.specs.Views.{program_of, known_in}
use Rattle.diff_layer.proofs.forms.operands.operands_of.Goals as goal

pub operands-requires-clause-bounded : goal.operands-requires-clause-bounded
operands-requires-clause-bounded c = bounded (program_of c.args.items.now) (known_in c.args.items.now) c.requires.fits

pub returns : goal.returns
returns c = c.operands.ensures ∙ operands_are (program_of c.args.items.now) (known_in c.args.items.now) (plain_amount c.args.amount) c.requires.small
