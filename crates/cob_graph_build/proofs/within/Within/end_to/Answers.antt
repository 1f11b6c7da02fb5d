use Rattle.std.proofs.Common.{ap, sym, ◌∙◌}
use Rattle.cob_program.specs.ActView.{plain_stmts, plain_phrase}
use Rattle.cob_graph.specs.Places.{first_of_list}
use Rattle.cob_graph.specs.Nodes.{end_to}
use Rattle.cob_graph_build.specs.Tables.{lay_list, lay_phrase}
use Rattle.cob_graph_build.specs.Growing.{plan, copies_of, copied_of}
use Rattle.cob_graph_build.proofs.within.Within.end_to.Goals as goal

pub returns-in-Some : goal.returns-in-Some
returns-in-Some c =
    let w = c.args.self.now in
    c.first_of_list.ensures (plan w) (copies_of w)
    ∙ ap (λ xs. first_of_list (lay_list (plan w) (copies_of w) (plain_stmts xs)) c.args.at c.args.next)
    c.deref.ensures.value
    ∙ ap (λ o. end_to (copied_of w) 0 (lay_phrase (plan w) (copies_of w) (plain_phrase o)) c.args.file c.args.at
    c.args.next) (sym c.in-Some.is)
