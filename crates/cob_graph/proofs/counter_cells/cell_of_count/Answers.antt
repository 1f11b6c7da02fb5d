use Rattle.std.proofs.Common.{◌-◌, length, refl, ap, ◌∙◌}
use Rattle.cob_program.specs.ActView.{plain_paras, plain_program}
use Rattle.cob_program.specs.Statements.{paras_statements}
use Rattle.cob_graph.specs.Homes.{count_homes}
use Rattle.cob_graph.specs.Numbers.{left_at}
use Rattle.cob_graph.proofs.CountLemmas.{items_fit, found_number, left_fits, no_number}
use Rattle.cob_graph.proofs.counter_cells.cell_of_count.Goals as goal

pub overflow_sub-counters : goal.overflow_sub-counters
overflow_sub-counters c =
    items_fit (plain_program c.args.program.now) c.args.statement c.args.cells.now c.item_count.result c.requires
    (c.item_count.ensures (plain_program c.args.program.now) c.requires)

pub overflow_sub-result : goal.overflow_sub-result
overflow_sub-result c =
    let s = c.args.statement in
    let left = length c.args.cells.now - c.item_count.result in
    let all = ap (λ ps. left_at s (count_homes (paras_statements (plain_paras ps))) left) c.get.ensures in
    left_fits (plain_program c.args.program.now) s c.args.cells.now c.item_count.result c.requires (c.item_count.ensures (plain_program c.args.program.now) c.requires)
    left refl c.in-Break.left (c.in-Break.ensures ∙ all)

pub returns-in-Break : goal.returns-in-Break
returns-in-Break c =
    let s = c.args.statement in
    let left = length c.args.cells.now - c.item_count.result in
    let all = ap (λ ps. left_at s (count_homes (paras_statements (plain_paras ps))) left) c.get.ensures in
    found_number (plain_program c.args.program.now) s c.args.cells.now c.item_count.result c.requires (c.item_count.ensures (plain_program c.args.program.now) c.requires)
    left refl c.in-Break.left (c.in-Break.ensures ∙ all)

pub returns-in-Continue : goal.returns-in-Continue
returns-in-Continue c =
    let s = c.args.statement in
    let left = length c.args.cells.now - c.item_count.result in
    let all = ap (λ ps. left_at s (count_homes (paras_statements (plain_paras ps))) left) c.get.ensures in
    no_number (plain_program c.args.program.now) s c.args.cells.now c.item_count.result c.requires (c.item_count.ensures (plain_program c.args.program.now) c.requires)
    left refl c.in-Continue.field-0 (c.in-Continue.ensures ∙ all)
