use Rattle.std.proofs.Common.{ap}
use Rattle.std.specs.Option.{option_map}
use Rattle.cert_text.specs.Reading.{numbers_at}
use Rattle.cert_text.proofs.Loops.{numbers_go_on}
use Rattle.cert_text.proofs.number.numbers_at.Goals as goal

pub loop-preserved : goal.loop-preserved
loop-preserved c =
    numbers_go_on c.loop.numbers.items c.push_number.new.numbers.items c.loop.counter c.loop.rest.now c.in-Some.after.now (option_map (λ r. r.now) c.in_ok-after.field-0) (numbers_at 8 c.args.bytes.now) c.loop-test.true c.in_ok-after.ensures (ap (option_map (λ r. r.now)) c.in-Some.is) c.loop.invariant
