use Rattle.std.proofs.Common.{ap, ◌∙◌}
use Rattle.cob_graph.specs.Places.{first_of_list}
use Rattle.cob_program.specs.ActView.{plain_stmts, plain_phrase}
use Rattle.cob_graph_build.specs.Tables.{lay_list}
use Rattle.cob_graph_build.specs.Growing.{plan, copies_of, copied_of}
use Rattle.cob_graph_build.proofs.ListLemmas.{sum_ok}
use Rattle.cob_graph_build.proofs.laying.Laying.lay_sum.Goals as goal

pub returns-in-Some : goal.returns-in-Some
returns-in-Some c =
    let w = c.args.within.now in
    sum_ok (copied_of w) (plan w) (copies_of w) c.add.result c.args.self.now c.add.new.self c.args.number c.args.fine
    c.first_of_list-failed.result c.args.size_at c.args.next
    (plain_phrase c.args.size.now) (plain_stmts c.in-Some.list.items) (ap plain_phrase c.in-Some.is)
    (c.first_of_list-failed.ensures (plan w) (copies_of w)
    ∙ ap (λ xs. first_of_list (lay_list (plan w) (copies_of w) (plain_stmts xs)) c.args.size_at c.args.next)
    c.deref.ensures.value)
    c.add.ensures
