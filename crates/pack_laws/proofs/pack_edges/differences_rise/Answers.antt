use Rattle.pack_laws.proofs.FormsRise.{divisor_narrower, difference_narrower}
use Rattle.pack_laws.proofs.pack_edges.differences_rise.Goals as goal

pub returns-clause-divisors : goal.returns-clause-divisors
returns-clause-divisors c p a x pack less more below d r e = divisor_narrower p a x pack less more below d r e

pub returns-clause-differences : goal.returns-clause-differences
returns-clause-differences c p a x pack less more below s t r q e g = difference_narrower p a x pack less more below s t r q e g
