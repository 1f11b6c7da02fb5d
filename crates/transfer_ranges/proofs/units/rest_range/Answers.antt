use Rattle.transfer_ranges.proofs.Working.{rest_is_small, rest_found}
use Rattle.dec_num.specs.declared.types.Mode.TheVariants.{Trunc}
use Rattle.transfer_ranges.specs.ResultRanges.{quotient_units}
use Rattle.transfer_ranges.proofs.units.rest_range.Goals as goal

pub rest-requires : goal.rest-requires
rest-requires c = rest_is_small c.args.top c.args.under c.args.scale (quotient_units Trunc c.args.scale c.args.top c.args.under) c.in-Some.units c.in-Some.ensures c.requires.rest

pub returns-in-Some-clause-value : goal.returns-in-Some-clause-value
returns-in-Some-clause-value c = rest_found c.args.top c.args.under c.args.scale c.in-Some.units c.rest.result c.in-Some.ensures c.requires.rest c.rest.ensures.value
