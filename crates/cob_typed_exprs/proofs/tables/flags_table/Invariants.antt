use Rattle.std.proofs.Common.{slice_get}
use Rattle.cob_typed_exprs.specs.Search.{flag_name}
use Rattle.cob_typed_exprs.specs.Tables.{IsTable}
use Rattle.cob_typed_exprs.proofs.tables.flags_table.Given as goal

abbrev pub invariant-loop-flag : goal.invariant-loop-flag
invariant-loop-flag l = IsTable l.table (λ place. flag_name (slice_get l.flags place)) l.flag-index
