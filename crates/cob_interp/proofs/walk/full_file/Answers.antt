use Rattle.std.proofs.Common.{sym, ◌∙◌}
use Rattle.cob_program.specs.ActView.{plain_act}
use Rattle.cob_interp.proofs.RoomLemmas.{no_write, room_at}
use Rattle.cob_interp.proofs.walk.full_file.Goals as goal

pub returns-in-None-clause-room : goal.returns-in-None-clause-room
returns-in-None-clause-room c = λ _.
    no_write c.args.setting.now c.args.world.now.world (plain_act c.args.place.now.statement.now.act.now)
    (sym (rw c.requires.runs at c.in-None.ensures))

pub returns-then-has_room-clause-room : goal.returns-then-has_room-clause-room
returns-then-has_room-clause-room c = λ _.
    room_at c.args.setting.now c.args.world.now.world (plain_act c.args.place.now.statement.now.act.now)
    c.in-Some.file (sym (rw c.requires.runs at c.in-Some.ensures)) (c.has_room.ensures c.if-has_room.true)

pub returns-else-has_room-clause-full : goal.returns-else-has_room-clause-full
returns-else-has_room-clause-full c = λ file is. sym (rw c.requires.runs at c.in-Some.ensures) ∙ is
