use Rattle.std.proofs.Common.{◌≤◌, length, ap, subst, arith}
use Rattle.cob_program.specs.ActView.{plain_program}
use Rattle.cob_graph.specs.Graphs.{cells_of}
use Rattle.cob_graph.specs.Limits.{most_cells}
use Rattle.analyse_core.proofs.CellSizes.{cells_are}
use Rattle.widen_solver.specs.Stored.{row_at}
use Rattle.analyse_core.specs.Choice.{packs_of}
use Rattle.analyse_core.specs.Packs.{ArePacksGiven}
use Rattle.analyse_core.specs.Solved.{solved}
use Rattle.analyse_core.proofs.PacksGiven.{given_ends, given_few, given_listed, given_rise}
use Rattle.analyse_core.proofs.SolvedRows.{bounds_show, bounds_there}
use Rattle.analyse_core.proofs.analysis.solve_beside.Goals as goal

pub new-requires-clause-few : goal.new-requires-clause-few
new-requires-clause-few g c = given_few (plain_program c.args.layer.now.program.now) c.args.packs.now c.args.lists.now c.requires.packs

pub new-requires-clause-packs : goal.new-requires-clause-packs
new-requires-clause-packs g c =
    let p = plain_program c.args.layer.now.program.now in
    let graph = c.args.layer.now.graph.now in
    given_rise p c.args.packs.now c.args.lists.now c.requires.packs (length graph.cells) (ap length (cells_are p graph c.requires.source))

pub new-requires-clause-listed : goal.new-requires-clause-listed
new-requires-clause-listed g c = given_listed (plain_program c.args.layer.now.program.now) c.args.packs.now c.args.lists.now c.requires.packs

pub new-requires-clause-ends : goal.new-requires-clause-ends
new-requires-clause-ends g c = given_ends (plain_program c.args.layer.now.program.now) c.args.packs.now c.args.lists.now c.requires.packs

pub new-requires-clause-facts : goal.new-requires-clause-facts
new-requires-clause-facts g c = λ node first last.
    (c.requires.cells.inductive.elements node (record { first = first; last = last })).formed

pub solve_packs-requires-clause-cells : goal.solve_packs-requires-clause-cells
solve_packs-requires-clause-cells g c =
    let same = ap (λ q. length (cells_of (plain_program q))) c.in_ok-second.ensures.program in
    let few = subst (λ cs. length cs ≤ most_cells) (cells_are (plain_program c.args.layer.now.program.now) c.args.layer.now.graph.now c.requires.source) c.requires.limits.cells in
    omega (arith, same, few)

pub solve_packs-requires-clause-packs : goal.solve_packs-requires-clause-packs
solve_packs-requires-clause-packs g c =
    let is = c.in_ok-second.ensures in rw (is.program, is.packs, is.thresholds) c.requires.packs

pub open_pairs-requires-clause-inductive : goal.open_pairs-requires-clause-inductive
open_pairs-requires-clause-inductive g c =
    let second = c.in_ok-second.second in
    let is = c.in_ok-second.ensures in
    let given : ArePacksGiven (plain_program second.program.now) second.packs.now second.thresholds.now =
    rw (is.program, is.packs, is.thresholds) c.requires.packs in
    bounds_there (plain_program second.program.now) second.graph.now second.packs.now second.thresholds.now given
    (row_at second.facts.now.rows) (row_at c.in_ok-bounds.bounds.rows) c.in_ok-bounds.ensures.solved

pub returns-clause-pairs : goal.returns-clause-pairs
returns-clause-pairs g c =
    let p = plain_program c.args.layer.now.program.now in
    let is = c.in_ok-second.ensures in
    let rows = row_at c.args.rows.now.rows in
    let bounds = row_at c.in_ok-bounds.bounds.rows in
    c.in_ok-pairs.ensures (packs_of p) (solved p rows bounds)
    (rw (is.program, is.graph, is.packs, is.facts)
    (bounds_show p c.args.layer.now.graph.now c.args.packs.now c.args.lists.now c.requires.packs rows bounds c.requires.some))
