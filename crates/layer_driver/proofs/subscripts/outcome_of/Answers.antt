use Rattle.std.proofs.Common.{◌<◌, length, sym, subst}
use Rattle.cob_program.specs.ActView.{plain_program}
use Rattle.graph_runs.specs.Sources.{IsSourceGraph}
use Rattle.interval_domain.specs.Elements.{CellsFit}
use Rattle.interval_domain.specs.Rows.{cells_of}
use Rattle.cell_steps.specs.OwnRanges.{owns}
use Rattle.layer_driver.proofs.ReachedRows.{row_is_reached, row_fits}
use Rattle.layer_driver.proofs.subscripts.outcome_of.Goals as goal

pub outcome_at-requires-clause-edge : goal.outcome_at-requires-clause-edge
outcome_at-requires-clause-edge c = subst (λ g. c.args.at < length g.edges) (sym c.in_ok-works.ensures.graph) c.requires.edge

pub outcome_at-requires-clause-source : goal.outcome_at-requires-clause-source
outcome_at-requires-clause-source c =
    let o = c.in_ok-works in
    let is = subst (λ p. ∥ IsSourceGraph (plain_program p) c.args.layer.now.graph.now ∥₁) (sym o.ensures.program) c.requires.source in
    subst (λ g. ∥ IsSourceGraph (plain_program o.works.program.now) g ∥₁) (sym o.ensures.graph) is

pub outcome_at-requires-clause-reached : goal.outcome_at-requires-clause-reached
outcome_at-requires-clause-reached c =
    row_is_reached (owns (plain_program c.args.layer.now.program.now)) c.args.row.now c.requires.row.formed c.is_reached.result c.is_reached.ensures c.if-not-is_reached.false

pub outcome_at-requires-clause-fits : goal.outcome_at-requires-clause-fits
outcome_at-requires-clause-fits c =
    subst (λ p. CellsFit (owns (plain_program p)) (cells_of c.args.row.now)) (sym c.in_ok-works.ensures.program)
    (row_fits (owns (plain_program c.args.layer.now.program.now)) c.args.row.now c.requires.row.formed c.is_reached.result c.is_reached.ensures c.if-not-is_reached.false)
