use Rattle.std.specs.Prelude.{IfSome}
use Rattle.std.proofs.Common.{sym, subst}
use Rattle.transfer_ranges.specs.AmountView.{plain_amount}
use Rattle.transfer_ranges.specs.Sizes.{IsSmallAmount}
use Rattle.cell_layer.proofs.Stepping.{can_work, small_amounts}
use Rattle.diff_layer.specs.Moments.{act_at, seen_at}
use Rattle.diff_layer.specs.Views.{program_of}
use Rattle.diff_layer.proofs.KeptSmall.{kept_small}
use Rattle.diff_layer.proofs.pack.faults.store_fits.Goals as goal

pub amount_for-found-requires-clause-can : goal.amount_for-found-requires-clause-can
amount_for-found-requires-clause-can c =
    let x = c.args in
    can_work (program_of x.moment.now.items) (act_at x.moment.now) x.moment.now.action (seen_at x.moment.now) c.requires.can c.requires.taken x.place (plain_amount x.amount) c.requires.small

pub amount_fits-requires-clause-can : goal.amount_fits-requires-clause-can
amount_fits-requires-clause-can c =
    let x = c.args in
    record {
      own = c.requires.small.own;
      small = c.requires.of_edge.small;
      top = kept_small (program_of x.moment.now.items) (act_at x.moment.now) x.moment.now.action (seen_at x.moment.now) c.requires.can c.requires.taken c.requires.small.sum;
      work = can_work (program_of x.moment.now.items) (act_at x.moment.now) x.moment.now.action (seen_at x.moment.now) c.requires.can c.requires.taken x.place (plain_amount x.amount) c.requires.small;
    }

pub amount_fits-requires-clause-small : goal.amount_fits-requires-clause-small
amount_fits-requires-clause-small c =
    let x = c.args in
    subst (λ o. IfSome o IsSmallAmount) (sym c.amount_for-found.ensures)
    (small_amounts (program_of x.moment.now.items) (act_at x.moment.now) x.moment.now.action (seen_at x.moment.now) c.requires.can c.requires.taken x.place (plain_amount x.amount) c.requires.small)
