use Rattle.std.proofs.Common.{ap}
use Rattle.cob_interp.specs.Tracking.{purpose_in}
use Rattle.cob_interp.proofs.Purposes.{slot_free}
use Rattle.std.proofs.Common.{sym, ◌∙◌}
use Rattle.cob_interp.proofs.Declared.{no_file, no_mode}
use Rattle.cob_interp.proofs.OpenLemmas.{has_file, output_ready, open_ready, opened_ready, is_closed_true, is_closed_false}
use Rattle.std.proofs.Common.{[], ◌∷◌}
use Rattle.cob_interp.specs.Setting.{paths_of}
use Rattle.cob_interp.specs.Touching.{makes_in}
use Rattle.cob_interp.proofs.Touched.{makes_stay, makes_same, makes_by_create, makes_own}
use Rattle.std.proofs.lemmas.Result.{err_from_is_err_and}
use Rattle.cob_interp.proofs.outside.ready_to_open.Goals as goal

pub returns-then-not-is_closed-clause-readies : goal.returns-then-not-is_closed-clause-readies
returns-then-not-is_closed-clause-readies g c =
    let h = has_file c.in-Some.mode _ c.in-Some.ensures in
    open_ready c.args.setting.now c.args.world.now.world c.args.opening c.path-path.result.now c.path-path.ensures h.0 h.1 _
    (is_closed_false c.in-Some.mode h.0.mode h.2 (sym c.is_closed.ensures ∙ c.if-not-is_closed.true)) _

pub returns-then-opening-clause-readies : goal.returns-then-opening-clause-readies
returns-then-opening-clause-readies g c =
    let h = has_file c.in-Some.mode _ c.in-Some.ensures in
    output_ready c.args.setting.now c.args.world.now.world c.args.opening c.path-path.result.now c.path-path.ensures h.0
    h.1 _ _ _ _
    (is_closed_true c.in-Some.mode h.0.mode h.2 (sym c.is_closed.ensures ∙ c.if-not-is_closed.false))
    c.if-opening.true c.in_ok-create.ensures.creates c.requires.live

pub returns-clause-readies : goal.returns-clause-readies
returns-clause-readies g c =
    let h = has_file c.in-Some.mode _ c.in-Some.ensures in
    opened_ready c.args.setting.now c.args.world.now.world c.args.opening c.path-path.result.now c.path-path.ensures h.0
    h.1 _ _
    _ _ (is_closed_true c.in-Some.mode h.0.mode h.2 (sym c.is_closed.ensures ∙ c.if-not-is_closed.false))
    c.if-opening.false _ c.in_ok-open_input.ensures.opens c.in_ok-open_input.ensures.same c.requires.live

pub returns-then-not-is_closed-clause-touches : goal.returns-then-not-is_closed-clause-touches
returns-then-not-is_closed-clause-touches g c =
    makes_stay (paths_of c.args.setting.now) (makes_in (c.args.opening ∷ [])) c.args.world.now.world _

pub returns-in_err-create-clause-touches : goal.returns-in_err-create-clause-touches
returns-in_err-create-clause-touches g c =
    let h = has_file c.in-Some.mode _ c.in-Some.ensures in
    makes_by_create (paths_of c.args.setting.now) (makes_in (c.args.opening ∷ [])) c.args.world.now.world _ _
    c.args.opening.file
    c.path-path.result.now h.0 c.requires.ready.distinct c.path-path.ensures.path_ h.1
    (is_closed_true c.in-Some.mode h.0.mode h.2 (sym c.is_closed.ensures ∙ c.if-not-is_closed.false))
    (makes_own c.args.opening c.if-opening.true) c.in_err-create.ensures.part

pub returns-then-opening-clause-touches : goal.returns-then-opening-clause-touches
returns-then-opening-clause-touches g c =
    let h = has_file c.in-Some.mode _ c.in-Some.ensures in
    makes_by_create (paths_of c.args.setting.now) (makes_in (c.args.opening ∷ [])) c.args.world.now.world _ _
    c.args.opening.file
    c.path-path.result.now h.0 c.requires.ready.distinct c.path-path.ensures.path_ h.1
    (is_closed_true c.in-Some.mode h.0.mode h.2 (sym c.is_closed.ensures ∙ c.if-not-is_closed.false))
    (makes_own c.args.opening c.if-opening.true) c.in_ok-create.ensures.part

pub returns-in_err-open_input-clause-touches : goal.returns-in_err-open_input-clause-touches
returns-in_err-open_input-clause-touches g c =
    makes_same (paths_of c.args.setting.now) (makes_in (c.args.opening ∷ [])) c.args.world.now.world _ _
    c.in_err-open_input.ensures.same

pub returns-clause-touches : goal.returns-clause-touches
returns-clause-touches g c =
    makes_same (paths_of c.args.setting.now) (makes_in (c.args.opening ∷ [])) c.args.world.now.world _ _
    c.in_ok-open_input.ensures.same

pub open_input-requires-clause-free : goal.open_input-requires-clause-free
open_input-requires-clause-free g c =
    let h = has_file c.in-Some.mode _ c.in-Some.ensures in
    let shut = is_closed_true c.in-Some.mode h.0.mode h.2
    (sym c.is_closed.ensures ∙ c.if-not-is_closed.false) in
    slot_free c.args.handles.now c.args.world.now.world.files c.requires.placed.purposes c.args.opening.file h.0 h.1
    (ap purpose_in shut)

pub create-requires-clause-free : goal.create-requires-clause-free
create-requires-clause-free g c =
    let h = has_file c.in-Some.mode _ c.in-Some.ensures in
    let shut = is_closed_true c.in-Some.mode h.0.mode h.2
    (sym c.is_closed.ensures ∙ c.if-not-is_closed.false) in
    slot_free c.args.handles.now c.args.world.now.world.files c.requires.placed.purposes c.args.opening.file h.0 h.1
    (ap purpose_in shut)

pub returns-in_err-create-clause-fault : goal.returns-in_err-create-clause-fault
returns-in_err-create-clause-fault g c =
    let p = err_from_is_err_and c.from_residual.result c.from_residual.ensures.1 in
    rw (p.1, p.2, c.if-opening.true) c.in_err-create.ensures.fault

pub returns-in_err-open_input-clause-fault : goal.returns-in_err-open_input-clause-fault
returns-in_err-open_input-clause-fault g c =
    let p = err_from_is_err_and c.from_residual-in_err-open_input.result c.from_residual-in_err-open_input.ensures.1 in
    rw (p.1, p.2, c.if-opening.false) c.in_err-open_input.ensures.fault

pub unreachable-requires : goal.unreachable-requires
unreachable-requires g c =
    no_file c.args.setting.now c.requires.ready.count c.args.opening.file c.requires.declared
    c.args.world.now.world.files c.requires.placed.count (no_mode _ c.in_default.ensures)
