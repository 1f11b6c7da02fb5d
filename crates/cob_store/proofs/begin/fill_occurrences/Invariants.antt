use Rattle.std.proofs.Common.{◌≡◌}
use Rattle.cob_runs.specs.Runs.{with_occurrences}
use Rattle.cob_store.proofs.begin.fill_occurrences.Given as goal

abbrev pub invariant-loop-number : goal.invariant-loop-number
invariant-loop-number l = l.storage ≡ with_occurrences l.extent l.bytes l.number l.initial.storage
