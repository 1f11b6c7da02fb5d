-- What is seen of a run between two parts of an edge.
use Rattle.std.specs.Prelude.{Bool, false, List, Option, None}
use Rattle.transfer_ranges.specs.declared.amounts.Taken.{Taken}
use Rattle.interval_domain.specs.Known.{Known}

pub record Seen : Type 0 where
  pub cells : List Known
  -- A part has written, and operands were taken right before the first that did.
  pub written : Bool
  -- what they were then; nothing where a divisor among them is 0 alone
  pub common : Option Taken
  -- a divisor may have been 0
  pub may_zero : Bool
  -- some receiver may have kept its value
  pub any_fail : Bool

abbrev pub beginning : List Known → Seen
beginning cells = record { cells = cells; written = false; common = None; may_zero = false; any_fail = false }

abbrev pub with_cells : Seen → List Known → Seen
with_cells s cells = record { cells = cells; written = s.written; common = s.common; may_zero = s.may_zero; any_fail = s.any_fail }

abbrev pub with_zero : Seen → Bool → Seen
with_zero s may_zero = record { cells = s.cells; written = s.written; common = s.common; may_zero = may_zero; any_fail = s.any_fail }
