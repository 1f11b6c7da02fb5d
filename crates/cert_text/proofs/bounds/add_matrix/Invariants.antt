use Rattle.std.proofs.Common.{◌≡◌, ◌++◌, pos}
use Rattle.std.specs.Prelude.{slice_index_or}
use Rattle.std.specs.List.{flat_map, range_with_len}
use Rattle.cert_text.specs.Bounds.{word_bounds}
use Rattle.cert_text.proofs.bounds.add_matrix.Given as goal

abbrev pub invariant-loop-at : goal.invariant-loop-at
invariant-loop-at l =
    l.bounds.items ≡ l.initial.bounds.items ++ flat_map (λ k. word_bounds l.pack l.size k (slice_index_or l.m k (pos 0))) (range_with_len 0 l.at)
