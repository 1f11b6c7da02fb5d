use Rattle.std.proofs.Common.{rules}
use Rattle.cob_program.specs.Values.{literal}
use Rattle.cob_program.proofs.Steps.{literal_within}
use Rattle.cob_store.proofs.ReadBound.{within_same}
use Rattle.cob_store.proofs.numbers.literal.Goals as goal

pub returns-clause-bound : goal.returns-clause-bound
returns-clause-bound c = within_same _ (literal c.args.number.now) _ (literal_within c.args.number.now) (search rules)
