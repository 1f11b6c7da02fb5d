use Rattle.std.proofs.Common.{◌<◌, length, refl, arith}
use Rattle.std.proofs.lemmas.Bool.Decides.{nat_tests}
use Rattle.cob_tree.proofs.InitialLemmas.{found_among}
use Rattle.cob_tree.proofs.keyword.looked_up.Goals as goal

pub returns-else-is_empty : goal.returns-else-is_empty
returns-else-is_empty c =
    let some : 0 < length c.args.name.now = grind (arith, nat_tests) in
    found_among c.args.name.now _ _ _ some refl c.beginning_with.ensures c.keyword_among.ensures
