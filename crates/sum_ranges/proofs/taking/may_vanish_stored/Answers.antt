use Rattle.std.proofs.Common.{sym, ◌∙◌}
use Rattle.cob_program.specs.SumView.{plain_sum}
use Rattle.cob_program.specs.RootView.{plain_root}
use Rattle.sum_ranges.proofs.Roots.{root_vanishes}
use Rattle.sum_ranges.proofs.taking.may_vanish_stored.Goals as goal

pub returns-in-Some : goal.returns-in-Some
returns-in-Some g c =
    c.quotient_may_vanish.ensures
    ∙ sym (root_vanishes (g.R.Ranges.range_at c.args.ranges.now) (plain_sum c.args.sum.now) (plain_root c.in-Some.root) (sym c.in-Some.ensures))
