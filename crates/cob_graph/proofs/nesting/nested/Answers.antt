use Rattle.cob_program.specs.ActView.{plain_program}
use Rattle.cob_graph.proofs.FirstLemmas.{answers}
use Rattle.cob_graph.proofs.nesting.nested.Goals as goal

pub returns-clause-outside : goal.returns-clause-outside
returns-clause-outside c =
    (answers (plain_program c.args.program.now) c.in-Ok.found c.deref.result.now c.in-Ok-distinct.calls.items c.deref-2.result.now c.deref-3.result.now c.in-Ok-first_broken.broken c.answer.result
    c.in-Ok.ensures c.deref.ensures.value c.deref-3.ensures.value c.deref-2.ensures.value c.in-Ok-distinct.ensures c.in-Ok-first_broken.ensures c.answer.ensures).outside
