use Rattle.std.proofs.Common.{ap}
use Rattle.interval_domain.specs.declared.bounds.Interval.{Interval}
use Rattle.sum_ranges.specs.Ranged.{ranged}
use Rattle.diff_layer.specs.Views.{program_of, known_in}
use Rattle.diff_layer.proofs.Counting.{count_small}
use Rattle.diff_layer.proofs.forms.lowered.count_range.Goals as goal

pub returns-clause-small : goal.returns-clause-small
returns-clause-small c =
    count_small (program_of c.args.items.now) (known_in c.args.items.now) c.args.statement _ c.requires.fits
    (ap (λ (i : Interval). ranged i 0) c.count_units.ensures)
