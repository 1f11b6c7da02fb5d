use Rattle.std.proofs.Common.{◌≡◌, ◌++◌, drop}
use Rattle.analyse_core.specs.Literals.{numbers_of, senders_literals}
use Rattle.analyse_core.proofs.literals.add_senders.Given as goal

abbrev pub invariant-loop-sender : goal.invariant-loop-sender
invariant-loop-sender l =
    numbers_of l.literals.items ++ senders_literals (drop l.sender-index l.senders)
    ≡ numbers_of l.initial.literals.items ++ senders_literals (l.initial.senders)
