use Rattle.std.proofs.Common.{length, subst, sym}
use Rattle.cob_store.specs.WellFormed.{IsWellFormedForm}
use Rattle.cob_calc.proofs.Bounded.{held_within, held_formed}
use Rattle.cob_calc.proofs.contents.Contents.is_numeric.Goals as goal

pub bytes-requires : goal.bytes-requires
bytes-requires c = held_within c.args.self.now c.args.place c.in-Some.item.now c.requires (sym c.in-Some.ensures)

pub is_number-requires : goal.is_number-requires
is_number-requires c =
    let item = c.in-Some.item.now in
    subst (λ bytes. IsWellFormedForm item.form (length bytes)) (sym c.bytes.ensures)
    (held_formed c.args.self.now c.args.place item c.requires (sym c.in-Some.ensures))
