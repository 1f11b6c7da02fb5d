use Rattle.cob_tree.specs.CondView.{plain_cond}
use Rattle.cob_tree.specs.StmtView.{plain_verb}
use Rattle.cob_parse_proc.specs.StmtSteps.{plain_branches}
use Rattle.cob_parse_proc.proofs.StmtAnswers.{if_takes}
use Rattle.cob_parse_proc.proofs.verb.with_branches.Goals as goal

pub returns-in-Ok-clause-takes : goal.returns-in-Ok-clause-takes
returns-in-Ok-clause-takes c = λ e. if_takes (plain_cond c.args.test) (plain_branches c.in-Ok.branches) (plain_verb c.conditional.result) c.in-Ok.takes_not c.conditional.ensures (rw c.in-Ok.is at e)
