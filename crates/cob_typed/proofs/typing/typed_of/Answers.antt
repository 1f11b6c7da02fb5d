use Rattle.cob_tree.specs.StmtView.{plain_tree}
use Rattle.cob_typed.proofs.typing.typed_of.Goals as goal

pub returns-in-Ok-clause-outside : goal.returns-in-Ok-clause-outside
returns-in-Ok-clause-outside c = λ rule line broken. c.answer_of.ensures.outside (plain_tree c.args.tree.now) c.in-Ok.ensures rule line broken

pub returns-in-Ok-clause-accepted : goal.returns-in-Ok-clause-accepted
returns-in-Ok-clause-accepted c = λ kept. c.answer_of.ensures.accepted (plain_tree c.args.tree.now) c.in-Ok.ensures kept
