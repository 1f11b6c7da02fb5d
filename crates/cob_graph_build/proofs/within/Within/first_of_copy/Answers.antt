use Rattle.std.proofs.Common.{◌≡◌, ◌+◌, true, false, refl, ap, sym, ◌∙◌, rules}
use Rattle.cob_graph.specs.Places.{first_of_paras}
use Rattle.cob_graph_build.specs.Tables.{is_in}
use Rattle.cob_graph_build.specs.Growing.{plan}
use Rattle.cob_graph_build.proofs.PlaceLemmas.{no_copy, copy_first}
use Rattle.cob_graph_build.proofs.within.Within.first_of_copy.Goals as goal

pub returns-then-is_in : goal.returns-then-is_in
returns-then-is_in c =
    let w = c.args.self.now in
    copy_first (plan w) w.table.now c.args.first c.args.last (c.args.last + 1) c.args.at c.args.next
    c.first_of_range.result refl
    (λ copies. c.first_of_range.ensures copies) (sym c.is_in.ensures ∙ c.if-is_in.true)

pub returns-else-is_in : goal.returns-else-is_in
returns-else-is_in c =
    let w = c.args.self.now in
    ap (λ ps. first_of_paras ps c.args.at c.args.next)
    (sym (no_copy (plan w) w.table.now c.args.first c.args.last (sym c.is_in.ensures ∙ c.if-is_in.false)))
