use Rattle.diff_bounds.proofs.Scales.{spans_raised, spans_added}
use Rattle.diff_bounds.proofs.form.error_laws.sums_span_at_greater_scales.Goals as goal

pub returns-clause-raised : goal.returns-clause-raised
returns-clause-raised c = spans_raised

pub returns-clause-added : goal.returns-clause-added
returns-clause-added c = spans_added
