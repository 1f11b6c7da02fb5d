use Rattle.std.proofs.Common.{sym, ap, ◌∙◌}
use Rattle.cob_program.specs.ActView.{plain_program}
use Rattle.cob_graph.specs.Numbers.{number_of}
use Rattle.diff_layer.proofs.pack.passing.number_of.Goals as goal

pub returns-in-Item : goal.returns-in-Item
returns-in-Item c =
    let p = plain_program c.args.program.now in
    c.cell_of.ensures p c.requires ∙ sym (ap (λ d. number_of p d) c.in-Item.is)
