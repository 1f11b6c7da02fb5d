use Rattle.std.proofs.Common.{◌≡◌, ℕ, List, length, slice_get, subst}
use Rattle.cob_data.specs.declared.layout.Item.{Item}
use Rattle.cob_data.specs.declared.layout.Flag.{Flag}
use Rattle.cob_data.specs.declared.layout.FileDecl.{FileDecl}
use Rattle.cob_typed_exprs.specs.Names.{item_name}
use Rattle.cob_typed_exprs.specs.Tables.{IsTable}
use Rattle.cob_typed_exprs.specs.Homes.{HasHomes}
use Rattle.cob_typed_exprs.specs.Search.{flag_name, file_name}
use Rattle.cob_typed_exprs.proofs.names.Names.of.Goals as goal

pub invariant_of-result : goal.invariant_of-result
invariant_of-result c = record {
  few = c.requires;
  items_are = subst (λ (xs : List Item). IsTable c.in-Ok.given (λ place. item_name (slice_get xs place)) (length xs)) c.get.ensures c.in-Ok.ensures;
  flags_are = subst (λ (xs : List Flag). IsTable c.in-Ok-flags_table.given (λ place. flag_name (slice_get xs place)) (length xs)) c.get-2.ensures c.in-Ok-flags_table.ensures;
  files_are = subst (λ (xs : List FileDecl). IsTable c.in-Ok-files_table.given (λ place. file_name (slice_get xs place)) (length xs)) c.get-3.ensures c.in-Ok-files_table.ensures;
  homes_are = subst (λ (xs : List FileDecl). HasHomes c.in-Ok-homes_of.given xs) c.get-4.ensures c.in-Ok-homes_of.ensures;
}
