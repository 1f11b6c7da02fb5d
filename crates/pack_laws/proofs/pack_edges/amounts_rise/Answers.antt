use Rattle.pack_laws.proofs.FormsRise.{are_taken, sender_narrower, lowered_narrower, amount_narrower}
use Rattle.pack_laws.proofs.SignsRise.{amount_surer}
use Rattle.pack_laws.proofs.pack_edges.amounts_rise.Goals as goal

pub returns-clause-amounts : goal.returns-clause-amounts
returns-clause-amounts c p a x pack less more below wrote place y r e has = amount_narrower p a x pack less more below wrote place y r e has

pub returns-clause-senders : goal.returns-clause-senders
returns-clause-senders c p a x pack less more below wrote y d e = sender_narrower p a x pack less more below wrote y (are_taken less.common more.common d e below.common)

pub returns-clause-counters : goal.returns-clause-counters
returns-clause-counters c p a x pack less more below wrote statement = lowered_narrower p a x pack less more below wrote statement

pub returns-clause-signs : goal.returns-clause-signs
returns-clause-signs c size a b lower f g n to r q m = amount_surer size a b lower f g n to r q m
