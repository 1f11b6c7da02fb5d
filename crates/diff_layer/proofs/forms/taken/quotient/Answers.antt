use Rattle.diff_layer.proofs.Quotients.{quotient_small}
use Rattle.diff_layer.proofs.forms.taken.quotient.Goals as goal

pub returns-clause-small : goal.returns-clause-small
returns-clause-small c = quotient_small c.args.top c.args.under c.factor_range.result c.requires c.factor_range.ensures
