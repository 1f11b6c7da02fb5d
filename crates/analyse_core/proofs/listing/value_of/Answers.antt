use Rattle.std.proofs.Common.{length, arith}
use Rattle.std.specs.Prelude.{nat_le}
use Rattle.std.proofs.lemmas.Bool.{and_parts, leb-true}
use Rattle.dec_num.proofs.Powers.{ten_monotone, ten_positive}
use Rattle.analyse_core.proofs.listing.value_of.Goals as goal

pub returns-clause-small : goal.returns-clause-small
returns-clause-small c =
    let n = c.args.number.now in
    let both = and_parts (nat_le (length n.digits) 18) (nat_le n.scale 18) c.requires in
    let digits = leb-true (length n.digits) 18 both.0 in
    let scale = leb-true n.scale 18 both.1 in
    let units = c.literal.ensures.bound.most in
    let same = c.literal.ensures.bound.scale in
    let most = ten_monotone (length n.digits) 18 digits in
    let some = ten_positive (length n.digits) in
    record { units = omega (arith, units, most, some); decimals = omega (arith, same, scale) }
