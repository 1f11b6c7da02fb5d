use Rattle.std.proofs.Common.{arith}
use Rattle.std.proofs.lemmas.Int.{ints}
use Rattle.matrix_driver.proofs.Sizes.{differences_small}
use Rattle.matrix_driver.proofs.cases.difference.Goals as goal

pub sub_i-requires-clause-results : goal.sub_i-requires-clause-results
sub_i-requires-clause-results c = differences_small c.args.a c.args.b (omega (arith, ints)) (omega (arith, ints))
