-- Own ranges of cells, whose numbers have at most 18 digits.
use Rattle.std.specs.Prelude.{◌≤◌, List, [], ◌∷◌, ℤ}
use Rattle.cob_runs.specs.declared.action.Cell.{Cell}
use Rattle.interval_domain.specs.declared.bounds.Interval.{Interval}

abbrev pub IsShort : Cell → Type 0
IsShort c = c.digits ≤ 18

abbrev pub ends_of : Interval → List ℤ
ends_of own = own.low ∷ own.high ∷ []
