use Rattle.std.proofs.Common.{if◌then◌else◌, Some, None, sym, ap, ◌∙◌}
use Rattle.diff_layer.specs.Plans.{plain_plan}
use Rattle.diff_layer.specs.Passed.{program_in, known_before, known_behind}
use Rattle.diff_layer.proofs.Staying.{still_closed}
use Rattle.diff_layer.proofs.pack.passing.close_behind.Goals as goal

pub returns-then-is_unchanged-clause-value : goal.returns-then-is_unchanged-clause-value
returns-then-is_unchanged-clause-value c =
    let x = c.args in
    let so = c.if-is_unchanged.true in
    still_closed (program_in x.passed.now) (known_before x.passed.now) (known_behind x.passed.now) (plain_plan x.plan.now) (c.is_unchanged.ensures.known so) x.last.now x.m.now
    (c.is_unchanged.ensures.words so) c.requires.closed
    ∙ sym (ap (λ b. if b then Some x.m.now else None) so)

pub returns-then-is_unchanged-clause-stays : goal.returns-then-is_unchanged-clause-stays
returns-then-is_unchanged-clause-stays c so =
    let x = c.args in
    still_closed (program_in x.passed.now) (known_before x.passed.now) (known_behind x.passed.now) (plain_plan x.plan.now) (c.is_unchanged.ensures.known so) x.last.now x.m.now
    (c.is_unchanged.ensures.words so) c.requires.closed

pub close_again-requires-clause-closed : goal.close_again-requires-clause-closed
close_again-requires-clause-closed c =
    let x = c.args in
    (known_before x.passed.now, x.passed.now.moment.fits, c.requires.closed)
