use Rattle.std.proofs.Common.{Option, subst, sym}
use Rattle.std.specs.Prelude.{IfSome}
use Rattle.interval_domain.specs.declared.bounds.Interval.{Interval}
use Rattle.cob_runs.specs.Contents.{form_at}
use Rattle.transfer_ranges.specs.AmountView.{plain_amount}
use Rattle.interval_domain.specs.Known.{IsOrdered}
use Rattle.transfer_ranges.specs.declared.amounts.AmountRange.{AmountRange}
use Rattle.transfer_ranges.specs.Sizes.{IsSmallAmount}
use Rattle.cell_layer.specs.RowWalks.{program_in, act_done, moment}
use Rattle.cell_layer.proofs.Stepping.{can_work, small_amounts, can_settle, units_ordered}
use Rattle.cell_layer.proofs.edge.row_walk.Walk.store.Goals as goal

pub amount_for-found-requires-clause-can : goal.amount_for-found-requires-clause-can
amount_for-found-requires-clause-can c =
    let x = c.args in
    can_work (program_in x.self.now) (act_done x.self.now) x.self.now.action (moment x.self.now) c.requires.can c.requires.written x.place (plain_amount x.amount) c.requires.small

pub stored_at-value-requires-clause-small : goal.stored_at-value-requires-clause-small
stored_at-value-requires-clause-small c =
    let x = c.args in
    subst (λ (o : Option AmountRange). IfSome o IsSmallAmount) (sym c.amount_for-found.ensures)
    (small_amounts (program_in x.self.now) (act_done x.self.now) x.self.now.action (moment x.self.now) c.requires.can c.requires.written x.place (plain_amount x.amount) c.requires.small)

pub may_keep_own-keeps-requires : goal.may_keep_own-keeps-requires
may_keep_own-keeps-requires c =
    let x = c.args in
    can_settle (program_in x.self.now) (act_done x.self.now) x.self.now.action (moment x.self.now) c.requires.can c.requires.written x.place (plain_amount x.amount) c.requires.small

pub units_on-units-requires : goal.units_on-units-requires
units_on-units-requires c =
    let x = c.args in
    let p = program_in x.self.now in
    subst (λ (o : Option Interval). IsOrdered o) (sym c.stored_at-value.ensures.units)
    (units_ordered x.mode (form_at p.layout x.place) c.amount_for-found.result)
