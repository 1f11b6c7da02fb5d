use Rattle.std.proofs.Common.{sym}
use Rattle.std.proofs.lemmas.Result.{IfErr-weaker}
use Rattle.cob_interp.specs.Setting.{paths_of}
use Rattle.cob_interp.specs.Touching.{makes_none}
use Rattle.cob_interp.proofs.Touched.{loses_by_one, touches_by_one}
use Rattle.cob_interp.proofs.Declared.{path_there, no_file}
use Rattle.cob_interp.proofs.Going.{named_at, goes_by}
use Rattle.cob_interp.proofs.outside.put_out.Goals as goal

pub put_waiting-requires-clause-held : goal.put_waiting-requires-clause-held
put_waiting-requires-clause-held g c = λ mode_.
    c.requires.written.held c.args.place c.in-Some.file.now (sym c.in-Some.ensures) mode_

pub unreachable-requires : goal.unreachable-requires
unreachable-requires g c =
    no_file c.args.setting.now c.requires.ready.count c.args.place c.requires.declared c.args.world.now.world.files
    c.requires.written.count (sym c.in-None.ensures)

pub returns-clause-goes : goal.returns-clause-goes
returns-clause-goes g c =
    let path = path_there c.args.setting.now c.requires.ready.count c.args.place c.requires.declared in
    goes_by c.args.setting.now c.args.world.now.world c.args.place _ _ c.args.handles.now path.0 c.in-Some.file.now
    path.1 (sym c.in-Some.ensures) c.requires.written _ c.put_waiting.ensures.readies

pub returns-clause-touches : goal.returns-clause-touches
returns-clause-touches g c =
    let path = path_there c.args.setting.now c.requires.ready.count c.args.place c.requires.declared in
    touches_by_one (paths_of c.args.setting.now) makes_none c.args.world.now.world _ _ c.args.place path.0
    c.in-Some.file.now c.requires.ready.distinct path.1.path_ (sym c.in-Some.ensures)
    (c.put_waiting.ensures.touches path.0
    (named_at c.args.setting.now c.args.world.now.world c.args.place _ (g.F.Files.state c.put_waiting.new.files)
    c.args.handles.now path.0 c.in-Some.file.now path.1 (sym c.in-Some.ensures) c.requires.written))

pub returns-clause-loses : goal.returns-clause-loses
returns-clause-loses g c =
    let path = path_there c.args.setting.now c.requires.ready.count c.args.place c.requires.declared in
    IfErr-weaker c.put_waiting.result _ _
    (λ e one. loses_by_one (paths_of c.args.setting.now) makes_none c.args.world.now.world _ _ c.args.place path.0
    c.in-Some.file.now c.requires.ready.distinct path.1.path_ (sym c.in-Some.ensures)
    (one path.0
    (named_at c.args.setting.now c.args.world.now.world c.args.place _ (g.F.Files.state c.put_waiting.new.files)
    c.args.handles.now path.0 c.in-Some.file.now path.1 (sym c.in-Some.ensures) c.requires.written)))
    c.put_waiting.ensures.loses
