use Rattle.std.proofs.Common.{◌≡◌, drop}
use Rattle.std.specs.List.{list_all}
use Rattle.cob_typed_exprs.specs.Sizes.{bound_at}
use Rattle.transfer_ranges.specs.Small.{is_short_pair}
use Rattle.range_driver.proofs.known.Known.are_short_pairs.Given as goal

abbrev pub invariant-loop-pair : goal.invariant-loop-pair
invariant-loop-pair l = list_all (is_short_pair (bound_at l.self.scope)) (drop l.pair-index l.pairs) ≡ list_all (is_short_pair (bound_at l.self.scope)) l.pairs
