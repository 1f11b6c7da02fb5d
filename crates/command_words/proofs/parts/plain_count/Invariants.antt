use Rattle.std.proofs.Common.{take}
use Rattle.command_words.specs.Words.{ArePlain, texts}
use Rattle.command_words.proofs.parts.plain_count.Given as goal

abbrev pub invariant-loop-place : goal.invariant-loop-place
invariant-loop-place l = ArePlain (texts (take l.place l.words))
