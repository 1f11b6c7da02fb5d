use Rattle.std.proofs.Common.{arith}
use Rattle.cob_graph_build.proofs.PlaceLemmas.{list_full}
use Rattle.cob_graph_build.proofs.places.first_of_list.Goals as goal

pub returns-in_default : goal.returns-in_default
returns-in_default c = λ p copies. list_full p copies c.args.list.now c.args.at c.args.next
    (omega (arith, c.in_default.len_at_least))
