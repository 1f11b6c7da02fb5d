use Rattle.std.proofs.Common.{◌≡◌, drop}
use Rattle.cob_tree.specs.Keywords.{keyword_among}
use Rattle.cob_tree.proofs.keyword.keyword_among.Given as goal

abbrev pub invariant-loop-place : goal.invariant-loop-place
invariant-loop-place l = keyword_among l.name (drop l.place l.keywords) ≡ keyword_among l.name l.keywords
