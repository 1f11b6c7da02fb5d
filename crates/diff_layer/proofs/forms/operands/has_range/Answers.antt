use Rattle.cob_program.specs.SumView.{plain_sum}
use Rattle.transfer_ranges.specs.Operands.{is_whole}
use Rattle.cell_steps.specs.Stores.{range_at}
use Rattle.diff_layer.specs.Views.{program_of, known_in}
use Rattle.diff_layer.proofs.Having.{none_taken, some_taken}
use Rattle.diff_layer.proofs.forms.operands.has_range.Goals as goal

pub returns-in-None : goal.returns-in-None
returns-in-None c =
    none_taken (range_at (program_of c.args.items.now) (known_in c.args.items.now)) (plain_sum c.args.sum.now) (is_whole c.args.how) _ c.operands_of.ensures c.in-None.is

pub returns-in-Some : goal.returns-in-Some
returns-in-Some c =
    some_taken (range_at (program_of c.args.items.now) (known_in c.args.items.now)) (plain_sum c.args.sum.now) (is_whole c.args.how) _ _ _ c.operands_of.ensures c.in-Some.is
    c.settles.ensures
