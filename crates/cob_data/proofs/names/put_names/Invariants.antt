use Rattle.std.proofs.Common.{◌≡◌, ℕ, List, take, bytes_eq}
use Rattle.std.specs.List.{list_any}
use Rattle.cob_data.specs.Names.{stands_in}
use Rattle.cob_data.proofs.names.put_names.Given as goal

abbrev pub invariant-loop-place : goal.invariant-loop-place
invariant-loop-place l = (q : List ℕ) → list_any (λ k. bytes_eq q k.items) l.set.keys ≡ stands_in (take l.place l.names) q
