use Rattle.cob_store.proofs.SenderLemmas.{held_within}
use Rattle.cob_store.proofs.shows.push_contents.Goals as goal

pub push_number-requires-clause-held : goal.push_number-requires-clause-held
push_number-requires-clause-held c = held_within c.args.form.now c.in-Number.digits _ _ _ c.in-Some.number c.in-Number.is c.in-Some.ensures.bound
