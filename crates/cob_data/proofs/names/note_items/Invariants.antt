use Rattle.std.proofs.Common.{◌≡◌, ℕ, List, take, bytes_eq}
use Rattle.indexmap.specs.IndexMap.{get_by}
use Rattle.cob_data.proofs.NameLemmas.{noted}
use Rattle.cob_data.proofs.names.note_items.Given as goal

abbrev pub invariant-loop-place : goal.invariant-loop-place
invariant-loop-place l = (q : List ℕ) → get_by (λ k. bytes_eq q k.items) l.notes ≡ noted q (take l.place l.items)
