use Rattle.std.proofs.Common.{ℕ, suc, [], ◌∷◌, sym, Some, ap, subst, ◌∙◌}
use Rattle.std.specs.Prelude.{take}
use Rattle.std.proofs.lemmas.Option.{same_Some}
use Rattle.std.proofs.lemmas.Result.{err_from_is_err_and}
use Rattle.cob_program.specs.Act.{open_files}
use Rattle.cob_program.specs.ActView.{plain_act}
use Rattle.cob_interp.specs.Setting.{program_of, paths_of}
use Rattle.cob_plan.specs.Stepping.{file_opened}
use Rattle.cob_interp.specs.Reached.{last_opened}
use Rattle.cob_interp.specs.Touching.{Makes, makes_in}
use Rattle.cob_interp.proofs.OpenLeads.{open_leads}
use Rattle.cob_interp.proofs.Declared.{opens_declared}
use Rattle.cob_interp.proofs.Purposes.{count_kept}
use Rattle.cob_interp.proofs.OpLemmas.{always_opens, opens_there}
use Rattle.cob_interp.proofs.Touched.{makes_more, makes_last}
use Rattle.cob_interp.proofs.Closings.{open_part, opens_behind}
use Rattle.cob_interp.proofs.TrackLemmas.{stand_on}
use Rattle.cob_interp.proofs.Placing.{open_places, open_one_placed}
use Rattle.cob_interp.proofs.Written.{left_by, refused_own}
use Rattle.cob_interp.proofs.Failing.{never_met, last_met, part_fine}
use Rattle.cob_interp.proofs.FitLemmas.{part_on, part_way}
use Rattle.cob_interp.proofs.opens.do_open.Goals as goal

pub unreachable-requires : goal.unreachable-requires
unreachable-requires g c =
    always_opens (program_of c.args.setting.now) c.args.place.now.plan_node.now.op
    (plain_act c.args.place.now.statement.now.act.now) c.args.openings.now c.requires.its c.requires.place.fits.fits
    c.in_default.not-Open

pub unreachable-requires-in-None : goal.unreachable-requires-in-None
unreachable-requires-in-None g c =
    opens_there (program_of c.args.setting.now) c.args.place.now.plan_node.now.op
    (plain_act c.args.place.now.statement.now.act.now) c.args.openings.now c.requires.its c.requires.place.fits.fits
    c.in-Open.file c.in-Open.fine c.in-Open.bad c.in-Open.is (sym c.opening_in.ensures ∙ c.in-None.is)

pub ready_to_open-requires-clause-declared : goal.ready_to_open-requires-clause-declared
ready_to_open-requires-clause-declared g c =
    opens_declared c.args.setting.now c.requires.ready.files c.args.place.now.statement.now.number c.args.openings.now
    (c.requires.place.statement.its ∙ ap Some c.requires.its) c.in-Open.file c.in-Some.opening (sym c.in-Some.ensures)

pub returns-clause-touches : goal.returns-clause-touches
returns-clause-touches g c = λ k opens.
    subst (λ (n : ℕ). Makes (paths_of c.args.setting.now) (makes_in (take (suc n) c.args.openings.now))
    c.args.world.now.world (g.F.Files.state c.args.files.now) (g.F.Files.state c.ready_to_open.new.files))
    (same_Some c.in-Open.file k (sym (ap file_opened c.in-Open.is) ∙ opens))
    (makes_more (paths_of c.args.setting.now) (makes_in (c.in-Some.opening ∷ []))
    (makes_in (take (suc c.in-Open.file) c.args.openings.now)) c.args.world.now.world
    (makes_last c.args.openings.now c.in-Open.file c.in-Some.opening (sym c.in-Some.ensures)) _ _
    c.in_ok-ready_to_open-in-Some.ensures.touches)

pub returns-in_err-ready_to_open-in-Some-clause-touches : goal.returns-in_err-ready_to_open-in-Some-clause-touches
returns-in_err-ready_to_open-in-Some-clause-touches g c = λ k opens.
    subst (λ (n : ℕ). Makes (paths_of c.args.setting.now) (makes_in (take (suc n) c.args.openings.now))
    c.args.world.now.world (g.F.Files.state c.args.files.now) (g.F.Files.state c.ready_to_open.new.files))
    (same_Some c.in-Open.file k (sym (ap file_opened c.in-Open.is) ∙ opens))
    (makes_more (paths_of c.args.setting.now) (makes_in (c.in-Some.opening ∷ []))
    (makes_in (take (suc c.in-Open.file) c.args.openings.now)) c.args.world.now.world
    (makes_last c.args.openings.now c.in-Open.file c.in-Some.opening (sym c.in-Some.ensures)) _ _
    c.in_err-ready_to_open-in-Some.ensures.touches)

pub returns-clause-way : goal.returns-clause-way
returns-clause-way g c = part_way c.args.setting.now c.args.place.now c.args.step _ _ _ c.do_part-next.ensures.does

pub returns-clause-leads : goal.returns-clause-leads
returns-clause-leads g c sink node budget is =
    rw c.lend_room.ensures.same
    (open_leads c.args.setting.now budget c.args.place.now c.args.step node sink _ _ _ _ _ c.requires.ready.distinct is
    c.in-Open.file c.in-Open.fine c.in-Open.bad c.in-Some.opening c.args.openings.now c.in-Open.is c.requires.its
    (sym c.in-Some.ensures) _ _ c.in_ok-ready_to_open-in-Some.ensures.readies _ c.do_part-next.ensures.does)

pub returns-clause-opens : goal.returns-clause-opens
returns-clause-opens g c =
    rw c.lend_room.ensures.same
    (opens_behind _ _ _ _ c.in_ok-ready_to_open-in-Some.ensures.opens
    (open_part c.args.setting.now c.args.place.now c.args.step _ _ c.args.openings.now c.in-Open.file c.in-Open.fine
    c.in-Open.bad c.in-Open.is (c.requires.place.statement.its ∙ ap Some c.requires.its) _ c.do_part-next.ensures.does))

pub returns-clause-placed : goal.returns-clause-placed
returns-clause-placed g c =
    let ready = c.in_ok-ready_to_open-in-Some.ensures.readies in
    rw (c.lend_room.ensures.ids, c.lend_room.ensures.same)
    (left_by _ (paths_of c.args.setting.now) (g.F.Files.state c.ready_to_open.new.files) _ _
    (open_places c.args.setting.now c.args.place.now c.args.step _ _ (plain_act c.args.place.now.statement.now.act.now)
    c.requires.place.statement.its _ c.do_part-next.ensures.does c.args.openings.now c.in-Open.file c.in-Open.fine c.in-Open.bad
    c.requires.its c.in-Open.is c.in-Some.opening (sym c.in-Some.ensures) (paths_of c.args.setting.now)
    (g.F.Files.state c.ready_to_open.new.files) _
    (open_one_placed c.args.setting.now.program.now.layout (paths_of c.args.setting.now)
    (g.F.Files.state c.args.files.now)
    (g.F.Files.state c.ready_to_open.new.files) _ _ _ c.in-Some.opening
    ready.path ready.file ready.is.path_ ready.has ready.stand
    (stand_on (paths_of c.args.setting.now) (g.F.Files.state c.args.files.now) _ _ _ ready.keeps.each
    c.requires.placed.stand)
    ready.is.decl ready.is.declared
    (count_kept c.args.world.now.world.files _ ready.keeps.purposes ∙ c.requires.placed.count)
    (ready.purposes c.requires.placed.purposes))))

pub returns-in_err-ready_to_open-in-Some-clause-placed : goal.returns-in_err-ready_to_open-in-Some-clause-placed
returns-in_err-ready_to_open-in-Some-clause-placed g c =
    let p = err_from_is_err_and c.from_residual.result c.from_residual.ensures.1 in
    rw (p.1, p.2)
    (refused_own (g.F.Files.state c.args.files.now) (g.F.Files.state c.ready_to_open.new.files) _ _
    c.in_err-ready_to_open-in-Some.ensures.readies)

pub returns-in_err-ready_to_open-in-Some-clause-met : goal.returns-in_err-ready_to_open-in-Some-clause-met
returns-in_err-ready_to_open-in-Some-clause-met g c =
    let p = err_from_is_err_and c.from_residual.result c.from_residual.ensures.1 in
    rw (p.1, p.2)
    (λ k opens.
    last_met c.args.openings.now k c.in-Open.file c.in-Some.opening _
    (same_Some c.in-Open.file k (sym (ap file_opened c.in-Open.is) ∙ opens)) (sym c.in-Some.ensures)
    c.in_err-ready_to_open-in-Some.ensures.fault)

pub returns-clause-met : goal.returns-clause-met
returns-clause-met g c = λ k opens.
    never_met (open_files (last_opened (suc k) c.args.openings.now)) _
    (part_fine c.args.setting.now c.args.place.now c.args.step _ _ _ c.do_part-next.ensures.does)

pub returns-clause-on : goal.returns-clause-on
returns-clause-on g c = part_on c.args.setting.now c.args.place.now c.args.step _ _ _ c.do_part-next.ensures.does
