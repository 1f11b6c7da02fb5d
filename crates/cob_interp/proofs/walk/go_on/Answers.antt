use Rattle.cob_program.specs.ActView.{plain_act}
use Rattle.cob_interp.specs.Setting.{paths_of}
use Rattle.cob_interp.proofs.Finishing.{flush_refused, step_refused, step_taken, tells_rest}
use Rattle.cob_interp.proofs.FitLemmas.{starts_at}
use Rattle.cob_interp.proofs.Flushing.{may_flush_faults}
use Rattle.cob_interp.proofs.Written.{rest_placed, sink_own}
use Rattle.cob_interp.proofs.walk.go_on.Goals as goal

pub returns-in-Err-clause-goes : goal.returns-in-Err-clause-goes
returns-in-Err-clause-goes g c budget steps start counted within here =
    flush_refused c.args.setting.now budget steps c.args.node c.place-place.result
    (starts_at c.args.setting.now c.args.node c.place-place.result c.place-place.ensures.is c.place-place.ensures.fits c.requires.rest) within start
    (g.F.Files.state c.args.files.now) (g.O.Sink.state c.args.out.now) (g.O.Sink.state c.flush_before.new.out)
    c.args.world.now.world c.flush_before.new.world.world here c.args.step c.in-Err.end c.in-Err.ensures.flushes

pub returns-in-Err-take_roomy_step-clause-goes : goal.returns-in-Err-take_roomy_step-clause-goes
returns-in-Err-take_roomy_step-clause-goes g c budget steps start counted within here =
    step_refused c.args.setting.now budget steps c.args.node c.place-place.result
    (starts_at c.args.setting.now c.args.node c.place-place.result c.place-place.ensures.is c.place-place.ensures.fits c.requires.rest) within start
    (g.F.Files.state c.args.files.now) (g.O.Sink.state c.args.out.now) (g.O.Sink.state c.flush_before.new.out)
    c.args.world.now.world c.flush_before.new.world.world here c.in-Ok.ensures.flushes
    (g.F.Files.state c.take_roomy_step.new.files) c.take_roomy_step.new.world.world
    c.args.step c.in-Err-take_roomy_step.ensures.reaches.reached c.in-Err-take_roomy_step.ensures.reaches.touches
    (g.O.Sink.state c.show_rest.new.out)
    c.show_rest.new.world.world c.in-Err-take_roomy_step.end c.show_rest.result c.in-Err-take_roomy_step.ensures.reaches.met
    c.in-Ok.ensures.first c.in-Err-take_roomy_step.ensures.still c.show_rest.ensures.shows
    (c.in-Err-take_roomy_step.ensures.takes (g.O.Sink.state c.flush_before.new.out) budget steps start counted within)

pub returns-in-Err-take_roomy_step-clause-placed : goal.returns-in-Err-take_roomy_step-clause-placed
returns-in-Err-take_roomy_step-clause-placed g c =
    rest_placed (plain_act c.place-place.result.statement.now.act.now) _ _ c.take_roomy_step.new.world.world
    c.show_rest.new.world.world c.in-Err-take_roomy_step.end c.show_rest.result (paths_of c.args.setting.now) _ _
    c.show_rest.ensures.shows
    c.in-Err-take_roomy_step.ensures.placed

pub returns-in-Err-take_roomy_step-clause-sink : goal.returns-in-Err-take_roomy_step-clause-sink
returns-in-Err-take_roomy_step-clause-sink g c =
    tells_rest (plain_act c.place-place.result.statement.now.act.now) (g.O.Sink.state c.args.out.now)
    (g.O.Sink.state c.flush_before.new.out) (g.O.Sink.state c.show_rest.new.out) c.take_roomy_step.new.world.world
    c.show_rest.new.world.world c.in-Err-take_roomy_step.end c.show_rest.result
    (may_flush_faults _ _ c.args.world.now.world c.flush_before.new.world.world c.in-Ok.ensures.flushes)
    c.show_rest.ensures.shows

pub returns-in-Ok-take_roomy_step-clause-goes : goal.returns-in-Ok-take_roomy_step-clause-goes
returns-in-Ok-take_roomy_step-clause-goes g c budget steps start counted within here =
    step_taken c.args.setting.now budget steps c.args.node c.place-place.result
    (starts_at c.args.setting.now c.args.node c.place-place.result c.place-place.ensures.is c.place-place.ensures.fits c.requires.rest) within start
    (g.F.Files.state c.args.files.now) (g.O.Sink.state c.args.out.now) (g.O.Sink.state c.flush_before.new.out)
    c.args.world.now.world c.flush_before.new.world.world here c.in-Ok.ensures.flushes
    (g.F.Files.state c.take_roomy_step.new.files) c.take_roomy_step.new.world.world
    c.args.step c.in-Ok-take_roomy_step.ensures.reaches.reached c.in-Ok-take_roomy_step.ensures.reaches.touches
    c.in-Ok-take_roomy_step.next
    (c.in-Ok-take_roomy_step.ensures.takes (g.O.Sink.state c.flush_before.new.out) budget steps start counted within)

pub returns-in-Err-clause-placed : goal.returns-in-Err-clause-placed
returns-in-Err-clause-placed g c = sink_own _ c.in-Err.end

pub take_roomy_step-requires-clause-starts : goal.take_roomy_step-requires-clause-starts
take_roomy_step-requires-clause-starts g c =
    starts_at c.args.setting.now c.args.node c.place-place.result c.place-place.ensures.is c.place-place.ensures.fits c.requires.rest
