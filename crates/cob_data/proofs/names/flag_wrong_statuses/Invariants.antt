use Rattle.std.proofs.Common.{◌≡◌, ℕ, List, false, map, take, unwrap_or, bytes_eq}
use Rattle.indexmap.specs.IndexMap.{get_by}
use Rattle.cob_data.specs.declared.description.Description.{Description}
use Rattle.cob_data.specs.Files.{is_status_item, breaks_status}
use Rattle.cob_data.proofs.names.flag_wrong_statuses.Given as goal

abbrev pub invariant-loop-select : goal.invariant-loop-select
invariant-loop-select l = (items : List Description) → ((q : List ℕ) → unwrap_or (get_by (λ k. bytes_eq q k.items) l.notes) false ≡ is_status_item q items) → l.wrong.items ≡ map (breaks_status items) (take l.select-index l.selects)
