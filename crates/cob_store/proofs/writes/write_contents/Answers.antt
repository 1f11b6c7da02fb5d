use Rattle.cob_store.proofs.SenderLemmas.{held_within}
use Rattle.cob_store.proofs.writes.write_contents.Goals as goal

pub write_spelled-requires-clause-held : goal.write_spelled-requires-clause-held
write_spelled-requires-clause-held c = held_within c.args.form.now c.in-Number.digits _ _ _ c.in-Some.number c.in-Number.is c.in-Some.ensures.bound
