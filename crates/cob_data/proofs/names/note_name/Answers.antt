use Rattle.cob_data.proofs.NameLemmas.{noted_name}
use Rattle.cob_data.proofs.names.note_name.Goals as goal

pub returns : goal.returns
returns c = noted_name (λ k. k.items) c.args.notes.now c.insert.new.self c.in_ok-key.key _ c.args.may_hold c.args.name.now c.in_ok-insert.ensures.updates c.in_ok-key.ensures.items c.is_first_holder-is_single.ensures
