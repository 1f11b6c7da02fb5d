use Rattle.std.proofs.Common.{◌≡◌, ◌++◌, drop}
use Rattle.cert_check.specs.Clearing.{left_of}
use Rattle.cert_check.proofs.cleared.push_left_open.Given as goal

abbrev pub invariant-loop-kind : goal.invariant-loop-kind
invariant-loop-kind l = l.pairs.items ++ left_of l.cleared l.statement (drop l.kind-index l.kind-items)
    ≡ l.initial.pairs.items ++ left_of l.cleared l.statement l.kind-items
