use Rattle.std.proofs.Common.{arith}
use Rattle.std.proofs.lemmas.Bool.Decides.{nat_tests}
use Rattle.cob_tree.proofs.InitialLemmas.{rises, among_slice}
use Rattle.cob_tree.proofs.keyword.with_letter.Goals as goal

pub slice_bounds-result-count : goal.slice_bounds-result-count
slice_bounds-result-count c = let up = rises c.args.letter c.requires in let low = up.0 in let high = up.1 in grind (arith, nat_tests, low, high)

pub slice_bounds-result-start : goal.slice_bounds-result-start
slice_bounds-result-start c = let up = rises c.args.letter c.requires in let low = up.0 in let high = up.1 in grind (arith, nat_tests, low, high)

pub slice_bounds-result-end : goal.slice_bounds-result-end
slice_bounds-result-end c = let up = rises c.args.letter c.requires in let low = up.0 in let high = up.1 in grind (arith, nat_tests, low, high)

pub returns : goal.returns
returns c first e rest = among_slice first c.args.letter rest c.requires e
