use Rattle.std.proofs.Common.{sym, subst}
use Rattle.cob_program.specs.Sum.{more_factors, no_factors}
use Rattle.cob_program.specs.declared.sum.Factor.{out-Factor}
use Rattle.cob_program.specs.SumView.{plain_atom}
use Rattle.sum_ranges.specs.Working.{HasRoom, CanScaleRange}
use Rattle.cob_program.proofs.SumLoops.{factor_is}
use Rattle.sum_ranges.proofs.Rooms.{can_scale}
use Rattle.sum_forms.proofs.sums.one_factor_range.Goals as goal

pub factor_range-requires : goal.factor_range-requires
factor_range-requires g c =
    let f = c.args.factor.now in
    let items = g.R.Ranges.range_at c.args.ranges.now in
    let bound = g.R.Ranges.bound_at c.args.ranges.now in
    let room = subst (λ x. HasRoom bound c.args.range (more_factors x no_factors)) (factor_is f) c.requires.room in
    subst (CanScaleRange (out-Factor f).over c.args.range) (sym c.turned.ensures)
    (can_scale items bound c.args.range c.in-Some.by (out-Factor f).over (out-Factor f).minus (plain_atom (out-Factor f).atom) no_factors c.requires.bounded room c.in-Some.ensures.value)
