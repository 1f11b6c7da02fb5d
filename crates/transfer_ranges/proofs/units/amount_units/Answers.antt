use Rattle.transfer_ranges.proofs.Working.{decimal_same, quotient_same, none_left, some_left}
use Rattle.transfer_ranges.proofs.units.amount_units.Goals as goal

pub returns-in-Decimal : goal.returns-in-Decimal
returns-in-Decimal c = decimal_same c.args.mode c.args.receiver.digits c.args.receiver.scale c.args.amount c.in-Decimal.r c.near_range.result c.in-Decimal.is c.near_range.ensures

pub returns-in-Quotient : goal.returns-in-Quotient
returns-in-Quotient c =
    quotient_same c.args.mode c.args.receiver.digits c.args.receiver.scale c.args.amount c.in-Quotient.top c.in-Quotient.under c.quotient_units.result c.requires.receiver.digits c.in-Quotient.is c.quotient_units.ensures

pub returns-in-None : goal.returns-in-None
returns-in-None c =
    none_left c.args.mode c.args.receiver.digits c.args.receiver.scale c.in-Remainder.scale c.args.amount c.in-Remainder.top c.in-Remainder.under c.in-Remainder.is c.in-None.ensures.value

pub returns-in-Some : goal.returns-in-Some
returns-in-Some c =
    some_left c.args.mode c.args.receiver.digits c.args.receiver.scale c.in-Remainder.scale c.args.amount c.in-Remainder.top c.in-Remainder.under c.in-Some.r c.near_range-in-Some.result c.in-Remainder.is c.in-Some.ensures.value c.near_range-in-Some.ensures
