use Rattle.std.proofs.Common.{◌≡◌, take}
use Rattle.command_words.specs.Words.{texts, lent_texts}
use Rattle.command_words.proofs.parts.behind_words.Given as goal

abbrev pub invariant-loop-place : goal.invariant-loop-place
invariant-loop-place l = lent_texts (take l.place l.plain) ≡ texts (take l.place l.words)
