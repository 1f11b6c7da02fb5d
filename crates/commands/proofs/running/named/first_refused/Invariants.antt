use Rattle.std.proofs.Common.{◌≡◌, [], take, drop}
use Rattle.command_words.specs.Words.{lent_texts}
use Rattle.commands.specs.Paths.{first_refused}
use Rattle.commands.proofs.running.named.first_refused.Given as goal

abbrev pub invariant-loop-place : goal.invariant-loop-place
invariant-loop-place l =
    first_refused l.files (lent_texts (take l.place l.words)) (lent_texts (drop l.place l.words)) ≡ first_refused
    l.files [] (lent_texts l.words)
