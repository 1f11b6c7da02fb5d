use Rattle.std.proofs.Common.{refl}
use Rattle.cob_program.specs.ActView.{plain_act}
use Rattle.cob_interp.specs.Setting.{paths_of}
use Rattle.cob_interp.specs.Touching.{makes_none}
use Rattle.cob_interp.proofs.Declared.{write_declared}
use Rattle.cob_interp.proofs.Emptying.{sees_stay, sees_behind, keeps_behind}
use Rattle.cob_interp.proofs.Passing.{ids_stay}
use Rattle.cob_interp.proofs.Touched.{touches_stay}
use Rattle.cob_interp.proofs.RoomLemmas.{room_out}
use Rattle.cob_interp.proofs.TrackLemmas.{places_stay}
use Rattle.cob_interp.proofs.Written.{written_placed}
use Rattle.cob_interp.proofs.Failing.{write_met_last}
use Rattle.cob_interp.proofs.walk.make_room.Goals as goal

pub returns-in-None-clause-sees : goal.returns-in-None-clause-sees
returns-in-None-clause-sees g c = sees_stay (paths_of c.args.setting.now) _ c.args.world.now.world

pub returns-in-None-clause-touches : goal.returns-in-None-clause-touches
returns-in-None-clause-touches g c = touches_stay (paths_of c.args.setting.now) makes_none c.args.world.now.world _

pub returns-in-None-clause-ids : goal.returns-in-None-clause-ids
returns-in-None-clause-ids g c = ids_stay _

pub returns-in-None-clause-places : goal.returns-in-None-clause-places
returns-in-None-clause-places g c = places_stay _

pub write_out-requires-clause-written : goal.write_out-requires-clause-written
write_out-requires-clause-written g c =
    written_placed (paths_of c.args.setting.now) _ c.args.handles.now c.args.world.now.world.files c.requires.placed

pub write_out-requires-clause-declared : goal.write_out-requires-clause-declared
write_out-requires-clause-declared g c =
    write_declared c.args.setting.now (plain_act c.args.place.now.statement.now.act.now) c.in-Some.file
    (c.in-Some.ensures.full c.in-Some.file refl)

pub returns-in-Some-clause-sees : goal.returns-in-Some-clause-sees
returns-in-Some-clause-sees g c =
    sees_behind c.args.setting.now c.args.world.now.world _ c.in-Some.file _ _ _ c.write_out.ensures.goes
    c.write_out.ensures.emptied c.requires.ready.distinct

pub returns-in-Some-clause-places : goal.returns-in-Some-clause-places
returns-in-Some-clause-places g c =
    keeps_behind c.args.setting.now c.args.world.now.world _ c.in-Some.file _ _ _ c.write_out.ensures.goes
    c.write_out.ensures.emptied

pub returns-in-None-clause-room : goal.returns-in-None-clause-room
returns-in-None-clause-room g c = c.in-None.ensures.room refl

pub returns-in-Some-clause-room : goal.returns-in-Some-clause-room
returns-in-Some-clause-room g c =
    room_out c.args.setting.now c.args.world.now.world _ (plain_act c.args.place.now.statement.now.act.now)
    c.in-Some.file c.write_out.result (c.in-Some.ensures.full c.in-Some.file refl) c.write_out.ensures.emptied

pub returns-in-Some-clause-met : goal.returns-in-Some-clause-met
returns-in-Some-clause-met g c =
    write_met_last c.args.setting.now.program.now.layout (plain_act c.args.place.now.statement.now.act.now) c.in-Some.file
    c.write_out.result (c.in-Some.ensures.full c.in-Some.file refl) c.write_out.ensures.fault
