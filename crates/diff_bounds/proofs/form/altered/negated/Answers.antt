use Rattle.diff_bounds.proofs.Changes.{negated_small}
use Rattle.diff_bounds.proofs.form.altered.negated.Goals as goal

pub returns-in-None-clause-value : goal.returns-in-None-clause-value
returns-in-None-clause-value c = absurd (c.in-None.ensures.small (negated_small c.args.form.now c.requires.ordered c.requires.form))

pub returns-in-None-clause-small : goal.returns-in-None-clause-small
returns-in-None-clause-small c = absurd (c.in-None.ensures.small (negated_small c.args.form.now c.requires.ordered c.requires.form))
