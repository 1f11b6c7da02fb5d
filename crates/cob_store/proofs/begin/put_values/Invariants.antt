use Rattle.std.proofs.Common.{◌≡◌, drop}
use Rattle.cob_runs.specs.Runs.{with_values}
use Rattle.cob_store.proofs.begin.put_values.Given as goal

abbrev pub invariant-loop-item : goal.invariant-loop-item
invariant-loop-item l = with_values l.layout (drop l.item-index l.layout.items) l.storage ≡ with_values l.layout l.layout.items l.initial.storage
