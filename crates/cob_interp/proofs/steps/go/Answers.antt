use Rattle.std.proofs.Common.{arith, sym, ◌∙◌}
use Rattle.std.proofs.lemmas.Result.{err_from_is_err_and}
use Rattle.cob_interp.proofs.FitLemmas.{led_to_rest, led_within, uncalled_at}
use Rattle.cob_interp.proofs.StepLemmas.{goes_on_underway}
use Rattle.cob_interp.proofs.Written.{places_behind}
use Rattle.cob_interp.proofs.steps.go.Goals as goal

pub returns-in_err-next-clause-leads : goal.returns-in_err-next-clause-leads
returns-in_err-next-clause-leads c =
    let p = err_from_is_err_and c.from_residual.result c.from_residual.ensures.1 in
    rw (p.1, p.2) (λ now budget. c.in_err-next.ensures.leads now c.args.node budget c.requires.place)

pub returns-then-rests_at-clause-leads : goal.returns-then-rests_at-clause-leads
returns-then-rests_at-clause-leads c =
    λ now budget. c.in_ok-next.ensures.leads now c.args.node budget c.requires.place

pub returns-clause-leads : goal.returns-clause-leads
returns-clause-leads c = λ now budget start within u.
    c.go_through.ensures.leads now budget start within
    (goes_on_underway c.args.setting.now start now _ c.args.step _
    (c.rests_at.ensures.graph c.if-rests_at.false)
    (c.in_ok-next.ensures.leads now c.args.node c.args.step c.requires.place start (omega arith) u))

pub returns-clause-places : goal.returns-clause-places
returns-clause-places c = places_behind _ _ _ _ c.in_ok-next.ensures.places c.go_through.ensures.places

pub returns-in_err-next-clause-fine : goal.returns-in_err-next-clause-fine
returns-in_err-next-clause-fine c =
    let p = err_from_is_err_and c.from_residual.result c.from_residual.ensures.1 in
    rw (p.1, p.2) c.in_err-next.ensures.fine

pub returns-then-rests_at-clause-rest : goal.returns-then-rests_at-clause-rest
returns-then-rests_at-clause-rest c =
    led_to_rest c.args.setting.now.plan.nodes.items c.args.node c.args.place.now.plan_node.now.statement _
    (c.in_ok-next.ensures.on c.args.node c.args.place.now.plan_node.now.statement c.requires.fits.leads)
    (sym c.rests_at.ensures.same ∙ c.if-rests_at.true)

pub go_through-requires-clause-within : goal.go_through-requires-clause-within
go_through-requires-clause-within c =
    (led_within c.args.setting.now.plan.nodes.items c.args.node c.args.place.now.plan_node.now.statement _
    (c.in_ok-next.ensures.on c.args.node c.args.place.now.plan_node.now.statement c.requires.fits.leads)
    (sym c.rests_at.ensures.same ∙ c.if-rests_at.false)).0

pub go_through-requires-clause-goes : goal.go_through-requires-clause-goes
go_through-requires-clause-goes c = sym c.rests_at.ensures.same ∙ c.if-rests_at.false

pub go_through-requires-clause-uncalled : goal.go_through-requires-clause-uncalled
go_through-requires-clause-uncalled c =
    uncalled_at c.args.setting.now c.args.node c.args.place.now c.requires.place c.requires.fits c.requires.uncalled
