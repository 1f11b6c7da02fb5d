use Rattle.std.proofs.Common.{slice_get}
use Rattle.cob_typed_exprs.specs.Names.{item_name}
use Rattle.cob_typed_exprs.specs.Tables.{IsTable}
use Rattle.cob_typed_exprs.proofs.tables.items_table.Given as goal

abbrev pub invariant-loop-item : goal.invariant-loop-item
invariant-loop-item l = IsTable l.table (λ place. item_name (slice_get l.items place)) l.item-index
