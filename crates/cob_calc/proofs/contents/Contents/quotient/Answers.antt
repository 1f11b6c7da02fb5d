use Rattle.cob_program.proofs.Roots.{divisor_is_small}
use Rattle.cob_calc.specs.Contents.{bound_at}
use Rattle.cob_calc.proofs.contents.Contents.quotient.Goals as goal

pub atom-requires-clause-small : goal.atom-requires-clause-small
atom-requires-clause-small c = divisor_is_small (bound_at c.args.self.now.layout) c.args.root c.requires.small
