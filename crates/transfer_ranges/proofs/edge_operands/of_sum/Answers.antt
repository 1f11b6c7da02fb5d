use Rattle.std.proofs.Common.{ap, ◌∙◌}
use Rattle.std.specs.Prelude.{option_map}
use Rattle.cob_program.specs.SumView.{plain_sum}
use Rattle.transfer_ranges.specs.Working.{for_store}
use Rattle.transfer_ranges.proofs.TakenLemmas.{taken_is}
use Rattle.transfer_ranges.proofs.edge_operands.of_sum.Goals as goal

pub returns : goal.returns
returns g c =
    c.for_store.ensures ∙ ap (option_map for_store) c.taken_sum.ensures
    ∙ taken_is (g.R.Ranges.range_at c.args.ranges.now) c.args.whole (plain_sum c.args.sum.now)
