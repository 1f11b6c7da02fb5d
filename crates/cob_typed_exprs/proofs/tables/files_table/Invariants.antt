use Rattle.std.proofs.Common.{slice_get}
use Rattle.cob_typed_exprs.specs.Search.{file_name}
use Rattle.cob_typed_exprs.specs.Tables.{IsTable}
use Rattle.cob_typed_exprs.proofs.tables.files_table.Given as goal

abbrev pub invariant-loop-file : goal.invariant-loop-file
invariant-loop-file l = IsTable l.table (λ place. file_name (slice_get l.files place)) l.file-index
