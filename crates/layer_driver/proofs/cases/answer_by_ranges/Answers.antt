use Rattle.std.proofs.Common.{ap, sym, subst, ◌∙◌}
use Rattle.cob_program.specs.ActView.{plain_program}
use Rattle.interval_domain.specs.Rows.{lists_of}
use Rattle.cell_steps.specs.OwnRanges.{owns}
use Rattle.cob_graph_build.specs.Limits.{IsWithinLimits}
use Rattle.graph_runs.specs.Sources.{IsSourceGraph}
use Rattle.cell_ranges.proofs.Sources.{lists_are_short, thresholds_of}
use Rattle.layer_driver.proofs.cases.answer_by_ranges.Goals as goal

pub new-requires-clause-lists : goal.new-requires-clause-lists
new-requires-clause-lists c = lists_are_short c.args.ends.now c.args.ranges.now c.requires.ends

pub new-requires-clause-ends : goal.new-requires-clause-ends
new-requires-clause-ends c =
    thresholds_of (plain_program c.args.program.now) c.args.ranges.now (lists_of c.args.ends.now) c.requires.ranges c.requires.ends

pub answer_lines-requires-clause-source : goal.answer_lines-requires-clause-source
answer_lines-requires-clause-source c =
    let o = c.in_ok-layer in
    let is = subst (λ p. ∥ IsSourceGraph (plain_program p) c.args.graph.now ∥₁) (sym o.ensures.program) c.requires.source in
    subst (λ g. ∥ IsSourceGraph (plain_program o.layer.program.now) g ∥₁) (sym o.ensures.graph) is

pub answer_lines-requires-clause-limits : goal.answer_lines-requires-clause-limits
answer_lines-requires-clause-limits c = subst IsWithinLimits (sym c.in_ok-layer.ensures.graph) c.requires.limits

pub answer_lines-requires-clause-ranges : goal.answer_lines-requires-clause-ranges
answer_lines-requires-clause-ranges c = c.requires.ranges ∙ ap (λ p. owns (plain_program p)) (sym c.in_ok-layer.ensures.program)
