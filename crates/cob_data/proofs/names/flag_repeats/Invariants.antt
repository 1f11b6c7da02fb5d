use Rattle.std.proofs.Common.{◌≡◌, ◌++◌, ℕ, List, [], take, drop, bytes_eq}
use Rattle.std.specs.List.{list_any}
use Rattle.cob_data.specs.Names.{stands_in, repeats}
use Rattle.cob_data.proofs.names.flag_repeats.Given as goal

abbrev pub invariant-loop-place : goal.invariant-loop-place
invariant-loop-place l = record {
  keys : (q : List ℕ) → list_any (λ k. bytes_eq q k.items) l.seen.keys ≡ stands_in (take l.place l.names) q;
  same : l.repeated.items ++ repeats (take l.place l.names) (drop l.place l.names) ≡ repeats [] l.names;
}
