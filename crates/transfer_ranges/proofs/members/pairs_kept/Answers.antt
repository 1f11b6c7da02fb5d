use Rattle.std.proofs.Common.{◌≡◌, sym, subst}
use Rattle.transfer_ranges.specs.Trimming.{pairs_kept}
use Rattle.transfer_ranges.proofs.members.pairs_kept.Goals as goal

pub returns-then-wanted : goal.returns-then-wanted
returns-then-wanted g c =
    subst (λ w. c.some_kept.result ≡ pairs_kept (g.R.Ranges.range_at c.args.ranges.now) w c.args.item c.args.pairs.now) (sym c.if-wanted.true) c.some_kept.ensures

pub returns-else-wanted : goal.returns-else-wanted
returns-else-wanted g c =
    subst (λ w. c.none_kept.result ≡ pairs_kept (g.R.Ranges.range_at c.args.ranges.now) w c.args.item c.args.pairs.now) (sym c.if-wanted.false) c.none_kept.ensures
