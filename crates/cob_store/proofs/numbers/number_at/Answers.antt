use Rattle.std.proofs.Common.{length, subst, sym}
use Rattle.cob_store.specs.WellFormed.{IsWellFormedForm}
use Rattle.cob_store.proofs.Parts.{first_formed}
use Rattle.cob_store.proofs.numbers.number_at.Goals as goal

pub number_in-requires-clause-sound : goal.number_in-requires-clause-sound
number_in-requires-clause-sound c =
    let item = c.in-Some.item.now in
    subst (λ bytes. IsWellFormedForm item.form (length bytes)) (sym c.area.ensures)
    (first_formed c.args.layout.now item c.args.storage.now c.in-Some.ensures.sound c.requires.whole)
