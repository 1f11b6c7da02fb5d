use Rattle.std.proofs.Common.{◌≡◌, drop}
use Rattle.std.specs.List.{list_any}
use Rattle.command_words.specs.Words.{lent_texts}
use Rattle.commands.specs.Paths.{is_named_by}
use Rattle.commands.proofs.running.named.is_given.Given as goal

abbrev pub invariant-loop-place : goal.invariant-loop-place
invariant-loop-place l =
    list_any (is_named_by l.name) (lent_texts (drop l.place l.words)) ≡ list_any (is_named_by l.name)
    (lent_texts l.words)
