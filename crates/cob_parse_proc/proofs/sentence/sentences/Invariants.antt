use Rattle.std.proofs.Common.{◌≤◌, length, map}
use Rattle.cob_tree.specs.StmtView.{plain_sentence}
use Rattle.cob_parse_data.proofs.ListLoop.{Kept}
use Rattle.cob_parse_proc.specs.Program.{limit, start_symbol, sentence_at}
use Rattle.cob_parse_proc.proofs.sentence.sentences.Given as goal

abbrev pub invariant-sentences : goal.invariant-sentences
invariant-sentences l = record {
  kept : Kept start_symbol (sentence_at limit) (map plain_sentence l.sentences.items) l.left l.lexemes;
  shorter : length l.left ≤ length l.lexemes;
}

abbrev pub decreases-sentences : goal.decreases-sentences
decreases-sentences l = length l.left
