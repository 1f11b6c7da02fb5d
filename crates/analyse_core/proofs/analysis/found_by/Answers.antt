use Rattle.std.proofs.Common.{◌≡◌, ◌∙◌, length, ap, sym, subst, arith}
use Rattle.std.specs.Prelude.{◌≤◌}
use Rattle.std.specs.List.{AllByRecursion}
use Rattle.std.proofs.lemmas.List.{length-map}
use Rattle.cob_program.specs.ActView.{plain_program}
use Rattle.cob_graph.specs.Graphs.{cells_of}
use Rattle.cob_graph.specs.Limits.{most_cells}
use Rattle.interval_domain.specs.Rows.{element_of}
use Rattle.cert_text.specs.MatrixClaims.{sizes_of}
use Rattle.widen_solver.specs.Stored.{row_at}
use Rattle.cert_check.specs.Assignments.{matrices_row}
use Rattle.analyse_core.specs.Choice.{packs_of}
use Rattle.analyse_core.specs.Solved.{solved}
use Rattle.analyse_core.proofs.CellSizes.{cells_are}
use Rattle.analyse_core.proofs.FoundRows.{bounds_found, cells_found, same_bounds, width_found}
use Rattle.analyse_core.proofs.Owned.{row_can_be_claimed}
use Rattle.analyse_core.proofs.PacksGiven.{small_sizes}
use Rattle.analyse_core.proofs.SameCertificates.{same_certificate}
use Rattle.analyse_core.proofs.analysis.found_by.Goals as goal

pub certificate_of-requires-clause-few : goal.certificate_of-requires-clause-few
certificate_of-requires-clause-few g c =
    let few = c.requires.ready.few in
    let many = sym (length-map c.args.packs.items (λ pack. pack.cells.items)) ∙ ap length c.requires.packs in
    omega (arith, few, many)

pub certificate_of-requires-clause-small : goal.certificate_of-requires-clause-small
certificate_of-requires-clause-small g c =
    let p = plain_program c.args.layer.now.program.now in
    let few = subst (λ cs. length cs ≤ most_cells) (cells_are p c.args.layer.now.graph.now c.requires.source) c.requires.limits.cells in
    subst (λ ps. AllByRecursion (λ n. n ≤ 8) (sizes_of ps)) (sym c.requires.packs)
    (small_sizes (length (cells_of p)) (packs_of p) few c.requires.ready.few c.requires.ready.fit)

pub certificate_of-requires-clause-rows : goal.certificate_of-requires-clause-rows
certificate_of-requires-clause-rows g c =
    let p = plain_program c.args.layer.now.program.now in
    let graph = c.args.layer.now.graph.now in
    let cells : length c.get.result.now ≡ length graph.cells = ap length c.get.ensures in
    λ node l h.
    row_can_be_claimed p graph c.requires.source (row_at c.args.rows.now.rows) c.requires.cells.inductive
    (length c.get.result.now) (cells ∙ ap length (cells_are p graph c.requires.source)) node l (omega (arith, h, c.nodes.ensures))

pub certificate_of-requires-clause-widths : goal.certificate_of-requires-clause-widths
certificate_of-requires-clause-widths g c =
    let p = plain_program c.args.layer.now.program.now in
    let graph = c.args.layer.now.graph.now in
    λ node l h.
    width_found p graph c.requires.source c.requires.ready (row_at c.args.rows.now.rows) (g.B.Rows.row_at c.args.bounds.now)
    c.requires.cells c.requires.beside c.args.packs.items c.requires.packs node l (omega (arith, h, c.nodes.ensures))

pub returns : goal.returns
returns g c =
    let p = plain_program c.args.layer.now.program.now in
    let graph = c.args.layer.now.graph.now in
    let rows = row_at c.args.rows.now.rows in
    let bounds = g.B.Rows.row_at c.args.bounds.now in
    let cells = ap length c.get.ensures ∙ ap length (cells_are p graph c.requires.source) in
    let found = cells_found p graph c.requires.source c.requires.ready rows bounds c.requires.cells c.requires.beside in
    record {
      assignment = solved p rows bounds;
      ready = c.requires.ready;
      cells_found = found;
      bounds_found = bounds_found p graph c.requires.source c.requires.ready rows bounds c.requires.cells c.requires.beside;
      is =
          c.in_ok-cert.ensures
          ∙ same_certificate (λ node. element_of (rows node)) bounds (matrices_row (solved p rows bounds)) _ _ _ _ _ _ cells c.requires.packs
          c.nodes.ensures (same_bounds p graph c.requires.source c.requires.ready rows bounds c.requires.cells c.requires.beside);
      pairs_are = c.requires.pairs;
    }
