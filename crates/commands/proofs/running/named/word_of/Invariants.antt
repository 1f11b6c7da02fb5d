use Rattle.std.proofs.Common.{◌≡◌, drop, find}
use Rattle.command_words.specs.Words.{lent_texts}
use Rattle.commands.specs.Paths.{is_named_by}
use Rattle.commands.proofs.running.named.word_of.Given as goal

abbrev pub invariant-loop-place : goal.invariant-loop-place
invariant-loop-place l =
    find (is_named_by l.name) (lent_texts (drop l.place l.words)) ≡ find (is_named_by l.name) (lent_texts l.words)
