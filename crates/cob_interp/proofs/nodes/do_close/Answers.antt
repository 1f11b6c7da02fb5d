use Rattle.std.proofs.Common.{sym, Some, ap, subst, ◌∙◌}
use Rattle.cob_program.specs.ActView.{plain_act}
use Rattle.cob_runs.specs.State.{World}
use Rattle.cob_interp.specs.Doing.{DoesPart}
use Rattle.cob_interp.specs.Setting.{program_of, paths_of}
use Rattle.cob_interp.specs.Readying.{emptied}
use Rattle.cob_interp.specs.Tracking.{ArePlaced}
use Rattle.cob_interp.proofs.CloseLemmas.{close_leads}
use Rattle.cob_interp.proofs.Declared.{closes_declared}
use Rattle.cob_interp.proofs.OpLemmas.{always_closes, closes_there}
use Rattle.cob_interp.proofs.Closings.{EndsAt, close_part, close_ends}
use Rattle.cob_interp.proofs.Emptying.{emptied_keeps, sees_out, out_again, underway_sees, closes_behind}
use Rattle.cob_interp.proofs.Placing.{placed_ends}
use Rattle.cob_interp.proofs.TrackLemmas.{placed_on}
use Rattle.cob_interp.proofs.Written.{left_by, unless_weaker}
use Rattle.cob_interp.proofs.FitLemmas.{part_on}
use Rattle.cob_interp.proofs.nodes.do_close.Goals as goal

pub returns-clause-leads : goal.returns-clause-leads
returns-clause-leads g c sink node budget is start within u =
    let w = c.args.world.now.world in
    let does = subst (λ (z : World). DoesPart c.args.setting.now c.args.place.now c.args.step z c.do_part.new.world.world
    c.do_part.result) c.in_ok-ready_to_close-in-Some.ensures.emptied c.do_part.ensures.does in
    let out = c.in_ok-ready_to_close-in-Some.ensures.goes in
    close_leads c.args.setting.now budget c.args.place.now c.args.step node sink _ _
    (emptied c.in-Some.at w) _ c.requires.ready.distinct is
    c.in-Close.file c.in-Close.fine c.in-Close.bad c.in-Some.at c.args.closed.now c.in-Close.is c.requires.its
    (sym c.in-Some.ensures) (out_again c.args.setting.now c.requires.ready.distinct w c.in-Some.at _ _ out) _
    does start within
    (underway_sees (program_of c.args.setting.now) c.args.setting.now.graph.now (paths_of c.args.setting.now) start sink
    _ _ w (emptied c.in-Some.at w)
    (sees_out c.args.setting.now c.requires.ready.distinct w c.in-Some.at _ _ out) c.args.step node u)

pub unreachable-requires : goal.unreachable-requires
unreachable-requires g c =
    always_closes (program_of c.args.setting.now) c.args.place.now.plan_node.now.op
    (plain_act c.args.place.now.statement.now.act.now) c.args.closed.now c.requires.its c.requires.place.fits.fits
    c.in_default.not-Close

pub unreachable-requires-in-None : goal.unreachable-requires-in-None
unreachable-requires-in-None g c =
    closes_there (program_of c.args.setting.now) c.args.place.now.plan_node.now.op
    (plain_act c.args.place.now.statement.now.act.now) c.args.closed.now c.requires.its c.requires.place.fits.fits
    c.in-Close.file c.in-Close.fine c.in-Close.bad c.in-Close.is (sym c.file_in.ensures ∙ c.in-None.is)

pub ready_to_close-requires-clause-declared : goal.ready_to_close-requires-clause-declared
ready_to_close-requires-clause-declared g c =
    closes_declared c.args.setting.now c.requires.ready.files c.args.place.now.statement.now.number c.args.closed.now
    (c.requires.place.statement.its ∙ ap Some c.requires.its) c.in-Close.file c.in-Some.at (sym c.in-Some.ensures)

pub returns-clause-closes : goal.returns-clause-closes
returns-clause-closes g c =
    let w = c.args.world.now.world in
    let does = subst (λ (z : World). DoesPart c.args.setting.now c.args.place.now c.args.step z c.do_part.new.world.world
    c.do_part.result) c.in_ok-ready_to_close-in-Some.ensures.emptied c.do_part.ensures.does in
    closes_behind c.args.setting.now c.requires.ready.distinct w c.in-Some.at _ _
    c.in_ok-ready_to_close-in-Some.ensures.goes _ _
    (close_part c.args.setting.now c.args.place.now c.args.step _ _ c.args.closed.now c.in-Close.file c.in-Close.fine
    c.in-Close.bad c.in-Close.is (c.requires.place.statement.its ∙ ap Some c.requires.its) _ does)

pub returns-clause-placed : goal.returns-clause-placed
returns-clause-placed g c =
    let w = c.args.world.now.world in
    let does = subst (λ (z : World). DoesPart c.args.setting.now c.args.place.now c.args.step z c.do_part.new.world.world
    c.do_part.result) c.in_ok-ready_to_close-in-Some.ensures.emptied c.do_part.ensures.does in
    let out = c.in_ok-ready_to_close-in-Some.ensures.goes in
    let again = out_again c.args.setting.now c.requires.ready.distinct w c.in-Some.at _ _ out in
    let u = emptied c.in-Some.at w in
    let placed = placed_on (paths_of c.args.setting.now) _ c.args.handles.now w.files u.files
    (emptied_keeps w c.in-Some.at out.file out.has) c.requires.placed in
    left_by _ (paths_of c.args.setting.now) (g.F.Files.state c.ready_to_close.new.files) _ _
    (unless_weaker _ (EndsAt u.files c.in-Some.at _) (ArePlaced (paths_of c.args.setting.now) _ _ _)
    (λ ends. placed_ends (paths_of c.args.setting.now) (g.F.Files.state c.args.files.now)
    (g.F.Files.state c.ready_to_close.new.files) c.args.handles.now _ u.files _ c.in-Some.at ends placed
    (c.in_ok-ready_to_close-in-Some.ensures.stand u.files placed.stand)
    c.in_ok-ready_to_close-in-Some.ensures.closed)
    (close_ends c.args.setting.now c.args.place.now c.args.step u _ c.args.closed.now c.in-Close.file c.in-Close.fine
    c.in-Close.bad c.in-Close.is (c.requires.place.statement.its ∙ ap Some c.requires.its) c.in-Some.at again.is.decl again.file
    (sym c.in-Some.ensures) again.is.declared again.has _
    does))

pub returns-clause-on : goal.returns-clause-on
returns-clause-on g c = part_on c.args.setting.now c.args.place.now c.args.step _ _ _ c.do_part.ensures.does
