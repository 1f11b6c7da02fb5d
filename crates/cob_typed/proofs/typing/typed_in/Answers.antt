use Rattle.cob_typed.proofs.AnswerLemmas.{scope_is}
use Rattle.cob_typed.proofs.typing.typed_in.Goals as goal

pub returns : goal.returns
returns c = c.typed_with.ensures c.args.layout.now (scope_is _ c.args.layout.now c.args.tree.now _ c.in-Ok.ensures c.get.ensures)
