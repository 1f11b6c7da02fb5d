use Rattle.std.proofs.Common.{ℕ, ◌+◌, ◌≤◌, List, length, refl, sym, subst}
use Rattle.cob_interp.proofs.RoomLemmas.{no_decl, no_file, room_by, not_true}
use Rattle.cob_interp.proofs.walk.has_room.Goals as goal

pub returns-in_default : goal.returns-in_default
returns-in_default c = λ _. no_decl _ _ (c.in_default.ensures.none refl)

pub returns-in-None : goal.returns-in-None
returns-in-None c = λ _. no_file _ _ (sym c.in-None.ensures)

pub returns-in-Some-file : goal.returns-in-Some-file
returns-in-Some-file c = λ is.
    let size = c.in-Some.ensures.some in
    room_by _ _ size.decl c.in-Some-file.found.now c.in-Some.size size.declared size.size_
    (sym c.in-Some-file.ensures)
    (subst (λ (bytes : List ℕ). length bytes + c.in-Some.size ≤ 65536) c.all.ensures
    (c.is_full.ensures.room (not_true _ is)))
