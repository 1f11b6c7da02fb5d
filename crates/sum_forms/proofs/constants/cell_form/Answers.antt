use Rattle.sum_forms.proofs.Working.{cell_is}
use Rattle.sum_forms.proofs.constants.cell_form.Goals as goal

pub returns-clause-value : goal.returns-clause-value
returns-clause-value c = cell_is c.args.cell c.requires
