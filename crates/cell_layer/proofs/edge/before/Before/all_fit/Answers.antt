use Rattle.cob_program.specs.ActView.{plain_act, plain_program}
use Rattle.transfer_ranges.specs.AmountView.{plain_amount}
use Rattle.cell_layer.specs.Kept.{seen}
use Rattle.cell_layer.proofs.Stepping.{can_work, small_amounts}
use Rattle.cell_layer.proofs.edge.before.Before.all_fit.Goals as goal

pub results_fit-requires-clause-can : goal.results_fit-requires-clause-can
results_fit-requires-clause-can c =
    let x = c.args in
    let s = x.self.now in
    can_work (plain_program s.program.now) (plain_act s.act.now) s.action (seen s.row.now x.moment) c.requires.can c.requires.written x.place (plain_amount x.amount) c.requires.small

pub results_fit-requires-clause-small : goal.results_fit-requires-clause-small
results_fit-requires-clause-small c =
    let x = c.args in
    let s = x.self.now in
    small_amounts (plain_program s.program.now) (plain_act s.act.now) s.action (seen s.row.now x.moment) c.requires.can c.requires.written x.place (plain_amount x.amount) c.requires.small
