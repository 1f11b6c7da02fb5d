use Rattle.std.proofs.Common.{arith, false, sym, ◌∙◌}
use Rattle.std.proofs.lemmas.Result.{err_from_is_err_and}
use Rattle.cob_interp.specs.Runs.{outside}
use Rattle.cob_interp.specs.Setting.{paths_of}
use Rattle.cob_interp.proofs.FitLemmas.{led_to_rest, led_within, uncalled_at, uncalled_read}
use Rattle.cob_interp.proofs.StepLemmas.{goes_on_underway}
use Rattle.cob_interp.proofs.Written.{left_behind}
use Rattle.cob_interp.proofs.Failing.{never_fails, never_still}
use Rattle.cob_interp.proofs.steps.go_read.Goals as goal

pub returns-in_err-next-clause-takes : goal.returns-in_err-next-clause-takes
returns-in_err-next-clause-takes g c =
    let p = err_from_is_err_and c.from_residual.result c.from_residual.ensures.1 in
    rw (p.1, p.2) c.in_err-next.ensures.takes

pub returns-clause-placed : goal.returns-clause-placed
returns-clause-placed g c =
    left_behind _ (paths_of c.args.setting.now) (g.F.Files.state c.do_read.new.files) _ _ _
    c.go_through.ensures.places c.in_ok-next.ensures.placed

pub returns-clause-takes : goal.returns-clause-takes
returns-clause-takes g c = λ sink budget steps start counted within stands.
    c.go_through.ensures.leads (outside (g.F.Files.state c.do_read.new.files) sink) budget start
    (omega (arith, counted, within))
    (goes_on_underway c.args.setting.now start _ _ c.args.step _ (c.rests_at.ensures.graph c.if-rests_at.false)
    (c.in_ok-next.ensures.takes sink budget steps start counted within stands))

pub returns-in_err-next-clause-fault : goal.returns-in_err-next-clause-fault
returns-in_err-next-clause-fault g c =
    let p = err_from_is_err_and c.from_residual.result c.from_residual.ensures.1 in
    rw (p.1, p.2) c.in_err-next.ensures.fault

pub returns-in_err-next-clause-still : goal.returns-in_err-next-clause-still
returns-in_err-next-clause-still g c =
    let p = err_from_is_err_and c.from_residual.result c.from_residual.ensures.1 in
    rw (p.1, p.2) c.in_err-next.ensures.still

pub returns-clause-fault : goal.returns-clause-fault
returns-clause-fault g c = never_fails false _ c.go_through.ensures.fine

pub returns-clause-still : goal.returns-clause-still
returns-clause-still g c = never_still _ _ c.go_through.ensures.fine

pub returns-then-rests_at-clause-rest : goal.returns-then-rests_at-clause-rest
returns-then-rests_at-clause-rest g c =
    led_to_rest c.args.setting.now.plan.nodes.items c.args.node c.args.place.now.plan_node.now.statement _
    (c.in_ok-next.ensures.on c.args.node c.args.place.now.plan_node.now.statement c.requires.fits.leads)
    (sym c.rests_at.ensures.same ∙ c.if-rests_at.true)

pub go_through-requires-clause-within : goal.go_through-requires-clause-within
go_through-requires-clause-within g c =
    (led_within c.args.setting.now.plan.nodes.items c.args.node c.args.place.now.plan_node.now.statement _
    (c.in_ok-next.ensures.on c.args.node c.args.place.now.plan_node.now.statement c.requires.fits.leads)
    (sym c.rests_at.ensures.same ∙ c.if-rests_at.false)).0

pub go_through-requires-clause-goes : goal.go_through-requires-clause-goes
go_through-requires-clause-goes g c = sym c.rests_at.ensures.same ∙ c.if-rests_at.false

pub go_through-requires-clause-uncalled : goal.go_through-requires-clause-uncalled
go_through-requires-clause-uncalled g c =
    uncalled_at c.args.setting.now c.args.node c.args.place.now c.requires.starts.is c.requires.fits
    (uncalled_read _ c.args.file c.requires.reads)
