use Rattle.std.proofs.Common.{arith}
use Rattle.std.proofs.lemmas.Int.{ints}
use Rattle.transfer_ranges.proofs.Capping.{quotients_capped}
use Rattle.transfer_ranges.proofs.units.quotient_units.Goals as goal

pub returns : goal.returns
returns c =
    quotients_capped c.args.mode c.args.scale c.args.top c.args.under _ c.quot_i.result c.requires.top c.requires.under c.quot_i.ensures.none c.quot_i.ensures.least (omega (arith, ints, c.shift-up.ensures))
