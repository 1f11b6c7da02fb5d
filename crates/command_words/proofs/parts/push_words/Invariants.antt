use Rattle.std.proofs.Common.{◌≡◌, ◌++◌, take}
use Rattle.command_words.specs.Words.{texts, lent_texts}
use Rattle.command_words.proofs.parts.push_words.Given as goal

abbrev pub invariant-loop-word : goal.invariant-loop-word
invariant-loop-word l = lent_texts l.plain.items ≡ lent_texts l.fn.plain.items ++ texts (take l.word-index l.words)
