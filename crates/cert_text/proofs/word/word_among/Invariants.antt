use Rattle.std.proofs.Common.{◌≡◌, drop}
use Rattle.cert_text.specs.Reading.{word_among}
use Rattle.cert_text.proofs.word.word_among.Given as goal

abbrev pub invariant-loop-word : goal.invariant-loop-word
invariant-loop-word l = word_among (drop l.word-index l.words) l.line ≡ word_among l.words l.line
