use Rattle.cob_calc.proofs.ReceiverLemmas.{whole_room}
use Rattle.cob_calc.proofs.receivers.receive.Goals as goal

pub put-requires-clause-small : goal.put-requires-clause-small
put-requires-clause-small c = whole_room c.args.layout.now c.args.worked.now c.args.target c.in-Whole.is c.requires.can.room
