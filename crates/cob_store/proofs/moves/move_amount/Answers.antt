use Rattle.std.proofs.Common.{refl}
use Rattle.cob_store.proofs.MoveLemmas.{unread_amount, moved_so}
use Rattle.cob_store.proofs.moves.move_amount.Goals as goal

pub returns-in-None : goal.returns-in-None
returns-in-None c =
    (unread_amount c.args.layout.now c.args.storage.now c.args.sender.now c.args.place c.requires.takes c.requires.single c.in-None.ensures.value, refl)

pub returns-then-store_at : goal.returns-then-store_at
returns-then-store_at c =
    moved_so c.args.layout.now c.args.storage.now c.args.sender.now c.args.place c.requires.takes c.requires.single c.in-Some.value _ _ c.in-Some.ensures.value
    c.if-store_at.ensures.held c.if-store_at.ensures.storage

pub returns-else-store_at : goal.returns-else-store_at
returns-else-store_at c =
    moved_so c.args.layout.now c.args.storage.now c.args.sender.now c.args.place c.requires.takes c.requires.single c.in-Some.value _ _ c.in-Some.ensures.value
    c.if-store_at.ensures.held c.if-store_at.ensures.storage
