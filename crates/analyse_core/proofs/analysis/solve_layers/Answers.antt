use Rattle.std.proofs.Common.{◌≡◌, ◌∙◌, List, [], length, ap, sym, subst, refl, arith}
use Rattle.cob_program.specs.ActView.{plain_program}
use Rattle.interval_domain.specs.Rows.{lists_of}
use Rattle.cert_text.specs.MatrixClaims.{cells_in}
use Rattle.cert_check.proofs.Layers.{cells_show}
use Rattle.widen_solver.specs.Stored.{row_at}
use Rattle.analyse_core.specs.Choice.{packs_of}
use Rattle.analyse_core.specs.Packs.{ArePacksGiven}
use Rattle.analyse_core.specs.Solved.{solved}
use Rattle.analyse_core.proofs.CellSizes.{cells_are}
use Rattle.analyse_core.proofs.Owned.{owns_count}
use Rattle.analyse_core.proofs.PacksGiven.{none_there, some_there}
use Rattle.analyse_core.proofs.SolvedRows.{cells_there, none_solved}
use Rattle.analyse_core.proofs.analysis.solve_layers.Goals as goal

pub solve_cells-requires-clause-cells : goal.solve_cells-requires-clause-cells
solve_cells-requires-clause-cells g c =
    let p = plain_program c.args.layer.now.program.now in
    let graph = c.args.layer.now.graph.now in
    let count = owns_count p graph c.requires.source in
    let same = ap length (cells_are p graph c.requires.source) in
    let limit = c.requires.limits.cells in
    omega (arith, count, same, limit)

pub open_pairs-requires-clause-inductive : goal.open_pairs-requires-clause-inductive
open_pairs-requires-clause-inductive g c =
    let layer = c.args.layer.now in
    cells_there (plain_program layer.program.now) layer.graph.now (lists_of layer.thresholds.now) c.requires.thresholds
    (row_at c.in_ok-rows.rows.rows) c.in_ok-rows.ensures.solved

pub found_by-requires-clause-beside : goal.found_by-requires-clause-beside
found_by-requires-clause-beside g c =
    none_solved (plain_program c.args.layer.now.program.now) c.args.layer.now.graph.now (row_at c.in_ok-rows.rows.rows)
    (sym c.requires.packs.packs_are
    ∙ ap cells_in (none_there _ _ c.as_slice.ensures.value (sym c.is_empty.ensures ∙ c.if-is_empty.true)))

pub found_by-requires-clause-pairs : goal.found_by-requires-clause-pairs
found_by-requires-clause-pairs g c =
    let p = plain_program c.args.layer.now.program.now in
    let graph = c.args.layer.now.graph.now in
    let rows = row_at c.in_ok-rows.rows.rows in
    let none = sym c.requires.packs.packs_are
    ∙ ap cells_in (none_there _ _ c.as_slice.ensures.value (sym c.is_empty.ensures ∙ c.if-is_empty.true)) in
    c.in_ok-pairs.ensures (packs_of p) (solved p rows (λ node. []))
    (cells_show p graph (packs_of p) (solved p rows (λ node. [])) rows (λ node first last. refl) none)

pub solve_beside-requires-clause-packs : goal.solve_beside-requires-clause-packs
solve_beside-requires-clause-packs g c =
    subst (λ ps. ArePacksGiven (plain_program c.args.layer.now.program.now) ps c.args.lists.now) (sym c.as_slice-2.ensures.value) c.requires.packs

pub solve_beside-requires-clause-some : goal.solve_beside-requires-clause-some
solve_beside-requires-clause-some g c =
    let some = some_there _ _ c.as_slice.ensures.value (sym c.is_empty.ensures ∙ c.if-is_empty.false) in
    let same = ap length c.as_slice-2.ensures.value in
    omega (arith, some, same)
