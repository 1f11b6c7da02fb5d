use Rattle.sum_forms.proofs.Working.{some_range, no_range, good_range}
use Rattle.sum_forms.proofs.constants.range_form.Goals as goal

pub returns-in-Some-clause-value : goal.returns-in-Some-clause-value
returns-in-Some-clause-value c = some_range c.args.decimals c.args.range c.in-Some.constant c.in-Some.ensures

pub returns-in-Some-clause-good : goal.returns-in-Some-clause-good
returns-in-Some-clause-good c = good_range c.args.decimals c.args.range c.in-Some.constant c.requires.range c.in-Some.ensures

pub returns-in-None-clause-value : goal.returns-in-None-clause-value
returns-in-None-clause-value c = no_range c.args.decimals c.args.range c.in-None.ensures
