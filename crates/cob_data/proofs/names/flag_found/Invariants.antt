use Rattle.std.proofs.Common.{◌≡◌, map, take, bytes_eq}
use Rattle.std.specs.List.{list_any}
use Rattle.cob_data.proofs.names.flag_found.Given as goal

abbrev pub invariant-loop-name : goal.invariant-loop-name
invariant-loop-name l = l.found.items ≡ map (λ q. list_any (λ k. bytes_eq q k.items) l.set.keys) (take l.name-index l.names)
