use Rattle.std.proofs.Common.{false, ap}
use Rattle.cob_program.specs.ActView.{plain_act}
use Rattle.cob_interp.specs.Tracking.{purpose_in}
use Rattle.cob_interp.proofs.Declared.{reads_declared}
use Rattle.cob_interp.proofs.OpLemmas.{always_reads}
use Rattle.cob_interp.proofs.Purposes.{slot_held}
use Rattle.cob_interp.proofs.RecordReads.{idle_arrives, window_arrives, on_file}
use Rattle.cob_interp.proofs.ReadParts.{idle_part_left, window_part_left}
use Rattle.cob_interp.proofs.Failing.{never_fails, never_still, part_fine}
use Rattle.cob_interp.proofs.FitLemmas.{part_on}
use Rattle.cob_interp.proofs.reads.do_read.Goals as goal

pub unreachable-requires : goal.unreachable-requires
unreachable-requires g c =
    let place = c.args.place.now in
    always_reads (plain_act place.statement.now.act.now) c.args.file place.plan_node.now.starts place.plan_node.now.op
    c.requires.reads c.requires.starts.starts c.requires.starts.is.fits.read c.in_default.not-Read

pub returns-in-None-clause-placed : goal.returns-in-None-clause-placed
returns-in-None-clause-placed g c =
    idle_part_left c.args.setting.now c.args.node c.args.place.now c.requires.starts c.args.file c.requires.reads
    c.args.step c.in-Read.found c.in-Read.end c.in-Read.bad c.in-Read.is (g.F.Files.state c.args.files.now)
    (g.F.Files.state c.args.files.now) c.args.handles.now c.args.world.now.world c.requires.placed _ _ c.in-None.ensures
    c.do_part.ensures.does

pub returns-in-None-clause-takes : goal.returns-in-None-clause-takes
returns-in-None-clause-takes g c = λ sink budget steps start counted within stands.
    idle_arrives c.args.setting.now c.args.node c.args.place.now c.requires.starts c.requires.ready.distinct c.args.file
    c.requires.reads budget steps c.args.step counted within start sink (g.F.Files.state c.args.files.now)
    (g.F.Files.state c.args.files.now) c.args.world.now.world stands c.in-Read.found c.in-Read.end c.in-Read.bad
    c.in-Read.is _ _ c.in-None.ensures c.do_part.ensures.does

pub returns-in-Some-clause-placed : goal.returns-in-Some-clause-placed
returns-in-Some-clause-placed g c =
    rw c.do_window.ensures.ids
    (window_part_left c.args.setting.now c.args.node c.args.place.now c.requires.starts c.args.file c.requires.reads
    c.args.step c.in-Read.found c.in-Read.end c.in-Read.bad c.in-Read.is (g.F.Files.state c.args.files.now)
    (g.F.Files.state c.do_window.new.files) c.args.handles.now c.args.world.now.world c.requires.placed c.requires.live
    c.in-Some.before c.in-Some.ensures _ _ c.do_window.ensures.reads)

pub returns-in-Some-clause-takes : goal.returns-in-Some-clause-takes
returns-in-Some-clause-takes g c = λ sink budget steps start counted within stands.
    window_arrives c.args.setting.now c.args.node c.args.place.now c.requires.starts c.requires.ready.distinct
    c.args.file
    c.requires.reads budget steps c.args.step counted within start sink (g.F.Files.state c.args.files.now)
    (g.F.Files.state c.do_window.new.files) c.args.world.now.world stands c.in-Read.found c.in-Read.end c.in-Read.bad
    c.in-Read.is c.args.handles.now c.requires.placed c.in-Some.before c.in-Some.ensures c.do_window.ensures.same _ _
    c.do_window.ensures.reads

pub do_window-requires-clause-reads : goal.do_window-requires-clause-reads
do_window-requires-clause-reads g c =
    let f = on_file _ c.in-Some.before c.in-Some.ensures in
    slot_held c.args.handles.now c.args.world.now.world.files c.requires.placed.purposes c.args.file f.0 f.1
    false (ap purpose_in f.2)

pub do_window-requires-clause-declared : goal.do_window-requires-clause-declared
do_window-requires-clause-declared g c =
    reads_declared c.args.setting.now c.requires.ready.files c.args.place.now.statement.now.number
    (plain_act c.args.place.now.statement.now.act.now) c.args.file c.requires.starts.is.statement.its c.requires.reads

pub returns-in-None-clause-fault : goal.returns-in-None-clause-fault
returns-in-None-clause-fault g c =
    never_fails false _ (part_fine c.args.setting.now c.args.place.now c.args.step _ _ _ c.do_part.ensures.does)

pub returns-in-None-clause-still : goal.returns-in-None-clause-still
returns-in-None-clause-still g c =
    never_still _ _ (part_fine c.args.setting.now c.args.place.now c.args.step _ _ _ c.do_part.ensures.does)

pub returns-in-None-clause-on : goal.returns-in-None-clause-on
returns-in-None-clause-on g c = part_on c.args.setting.now c.args.place.now c.args.step _ _ _ c.do_part.ensures.does
