use Rattle.std.proofs.Common.{◌≡◌, ◌++◌, drop}
use Rattle.cob_runs.specs.Showing.{line_of}
use Rattle.cob_store.proofs.shows.push_line.Given as goal

abbrev pub invariant-loop-sender : goal.invariant-loop-sender
invariant-loop-sender l =
    l.shown.items ++ line_of l.layout l.storage (drop l.sender-index l.senders) ≡ l.initial.shown.items ++ line_of l.layout l.storage l.senders
