use Rattle.std.proofs.Common.{◌≡◌, length, take}
use Rattle.cob_lex.specs.Words.{raised}
use Rattle.cob_lex.proofs.word.spelled_keyword.Given as goal

abbrev pub invariant-loop-place : goal.invariant-loop-place
invariant-loop-place l = record {
  long : length l.capitals ≡ 30;
  raised : take l.place l.capitals ≡ raised (take l.place l.front);
}
