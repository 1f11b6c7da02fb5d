use Rattle.cob_tree.specs.StmtView.{plain_tree}
use Rattle.cob_front.proofs.Answering.{answer_of_source}
use Rattle.cob_front.proofs.phases.answered.Goals as goal

pub returns-in-Ok : goal.returns-in-Ok
returns-in-Ok c = answer_of_source c.args.bytes.now (plain_tree c.in-Ok.tree) c.typed_in.result c.in-Ok.ensures.answer c.typed_in.ensures
