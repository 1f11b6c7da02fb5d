use Rattle.std.proofs.Common.{◌≡◌, drop}
use Rattle.std.specs.List.{list_all}
use Rattle.transfer_ranges.specs.Members.{is_number_pair}
use Rattle.transfer_ranges.proofs.guards.are_number_pairs.Given as goal

abbrev pub invariant-loop-pair : goal.invariant-loop-pair
invariant-loop-pair l = list_all (is_number_pair l.layout) (drop l.pair-index l.pairs) ≡ list_all (is_number_pair l.layout) l.pairs
