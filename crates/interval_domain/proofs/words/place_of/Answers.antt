use Rattle.std.proofs.Common.{arith}
use Rattle.interval_domain.proofs.Places.{high_place}
use Rattle.interval_domain.proofs.words.place_of.Goals as goal

pub overflow_mul-result : goal.overflow_mul-result
overflow_mul-result c = let within = high_place c.args.row.now c.args.k c.requires.reached c.requires.k in omega (arith, within)

pub overflow_add-result : goal.overflow_add-result
overflow_add-result c = let within = high_place c.args.row.now c.args.k c.requires.reached c.requires.k in omega (arith, within)

pub returns-clause-within : goal.returns-clause-within
returns-clause-within c = let within = high_place c.args.row.now c.args.k c.requires.reached c.requires.k in omega (arith, within)
