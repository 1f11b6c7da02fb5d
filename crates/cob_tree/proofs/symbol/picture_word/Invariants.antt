use Rattle.std.proofs.Common.{◌≡◌, ◌≤◌, length}
use Rattle.cob_tree.specs.Pictures.{most_bytes}
use Rattle.cob_tree.specs.PictureForms.{prefixed, word_from}
use Rattle.cob_tree.proofs.symbol.picture_word.Given as goal

abbrev pub invariant-loop-rest : goal.invariant-loop-rest
invariant-loop-rest l = record {
  within : length l.word.items ≤ most_bytes;
  same : prefixed l.word.items (word_from 0 l.rest) ≡ word_from 0 l.text;
}

abbrev pub decreases-loop-rest : goal.decreases-loop-rest
decreases-loop-rest l = length l.rest
