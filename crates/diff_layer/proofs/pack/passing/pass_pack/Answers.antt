use Rattle.std.proofs.Common.{sym, ap, subst, ◌∙◌}
use Rattle.diff_bounds.specs.Matrix.{IsMatrix}
use Rattle.cob_graph.specs.Homes.{homes_of}
use Rattle.diff_steps.specs.Matrices.{put_closed}
use Rattle.diff_steps.specs.Packs.{size_of}
use Rattle.diff_layer.specs.Closed.{IsClosedBy}
use Rattle.diff_layer.specs.Plans.{plain_plan}
use Rattle.diff_layer.specs.Passed.{program_in, known_before, known_behind}
use Rattle.diff_layer.proofs.pack.passing.pass_pack.Goals as goal

pub close_behind-requires-clause-last : goal.close_behind-requires-clause-last
close_behind-requires-clause-last c = subst (IsMatrix (size_of (plain_plan c.args.plan.now))) (sym c.copy_from_slice.ensures.after) c.requires.matrix

pub close_behind-requires-clause-closed : goal.close_behind-requires-clause-closed
close_behind-requires-clause-closed c =
    let x = c.args in
    subst (IsClosedBy (program_in x.passed.now) (known_before x.passed.now) (plain_plan x.plan.now)) (sym c.copy_from_slice.ensures.after) c.requires.closed

pub returns-clause-value : goal.returns-clause-value
returns-clause-value c wrote written =
    let x = c.args in
    let p = program_in x.passed.now in
    ap (put_closed p.layout (homes_of p) (known_behind x.passed.now) (plain_plan x.plan.now)) (sym (c.change_plan.ensures.value wrote written)) ∙ c.close_behind.ensures.value
