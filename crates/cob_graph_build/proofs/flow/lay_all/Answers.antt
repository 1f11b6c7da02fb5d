use Rattle.std.proofs.Common.{◌≡◌, ◌∙◌, ap}
use Rattle.cob_program.specs.ActView.{plain_program}
use Rattle.cob_graph_build.specs.Growing.{Seen}
use Rattle.cob_graph_build.proofs.FlowLemmas.{whole}
use Rattle.cob_graph_build.proofs.flow.lay_all.Goals as goal

pub returns-clause-nodes : goal.returns-clause-nodes
returns-clause-nodes c =
    c.parts.ensures.nodes
    ∙ ap (λ (s : Seen). s.nodes) (whole (plain_program c.args.program.now) c.args.table.now c.args.paras c.args.nodes
    c.requires.paras c.requires.nodes
    c.new-laying.result c.lay_paras.new.self c.add_final.new.self c.new-laying.ensures c.in_ok-lay_paras.ensures
    c.in_ok-add_final.ensures)

pub returns-clause-edges : goal.returns-clause-edges
returns-clause-edges c =
    c.parts.ensures.edges
    ∙ ap (λ (s : Seen). s.edges) (whole (plain_program c.args.program.now) c.args.table.now c.args.paras c.args.nodes
    c.requires.paras c.requires.nodes
    c.new-laying.result c.lay_paras.new.self c.add_final.new.self c.new-laying.ensures c.in_ok-lay_paras.ensures
    c.in_ok-add_final.ensures)
