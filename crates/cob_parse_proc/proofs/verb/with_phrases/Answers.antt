use Rattle.cob_tree.specs.StmtView.{plain_tail, plain_verb}
use Rattle.cob_parse_verb.specs.VerbSteps.{plain_arithmetic}
use Rattle.cob_parse_proc.proofs.StmtAnswers.{sum_takes}
use Rattle.cob_parse_proc.proofs.verb.with_phrases.Goals as goal

pub returns-in-Ok-clause-takes : goal.returns-in-Ok-clause-takes
returns-in-Ok-clause-takes c = λ e. sum_takes (plain_arithmetic c.args.arithmetic) (plain_tail c.in-Ok.tail) (plain_verb c.with_tail.result) c.in-Ok.takes_not c.with_tail.ensures (rw c.in-Ok.is at e)
