use Rattle.std.proofs.Common.{arith}
use Rattle.std.proofs.lemmas.Int.{ints}
use Rattle.analyse_core.proofs.CellLists.{lies_is}
use Rattle.analyse_core.proofs.listing.word.Goals as goal

pub overflow_cast-result : goal.overflow_cast-result
overflow_cast-result c =
    let lies = lies_is c.args.own c.args.z c.requires.lies in
    let low = lies.0 in
    let high = lies.1 in
    let least = c.requires.own.low in
    let most = c.requires.own.high in
    search (arith, ints)
