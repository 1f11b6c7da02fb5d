use Rattle.std.proofs.Common.{◌≡◌, ℕ, Some, ap, subst, ◌∙◌, sym}
use Rattle.cob_program.specs.ActView.{plain_act}
use Rattle.cob_runs.specs.Effects.{act_at}
use Rattle.cob_interp.specs.Runs.{outside}
use Rattle.cob_interp.specs.Setting.{program_of, paths_of}
use Rattle.cob_interp.specs.Reached.{last_of, Reaches}
use Rattle.cob_interp.specs.Touching.{makes_none}
use Rattle.cob_interp.proofs.CallLemmas.{is_open, is_close}
use Rattle.cob_interp.proofs.FitLemmas.{opens_first, own_within, read_met_last, uncalled_other}
use Rattle.cob_interp.proofs.Taking.{free_close, free_open, free_other, step_begins}
use Rattle.cob_interp.proofs.Readied.{touches_known}
use Rattle.cob_interp.proofs.Written.{left_behind}
use Rattle.cob_interp.proofs.Touched.{reaches_none, touches_stay}
use Rattle.cob_program.specs.Act.{Act, open_files, close_files}
use Rattle.cob_interp.proofs.Failing.{close_first, close_met, never_met, never_still, open_first}
use Rattle.cob_interp.proofs.steps.take_step.Goals as goal

pub open_all-requires-clause-its : goal.open_all-requires-clause-its
open_all-requires-clause-its g c =
    subst (λ (n : ℕ). act_at (program_of c.args.setting.now) n ≡ Some (open_files c.in-Open.openings.now))
    c.requires.starts.is.number
    (c.requires.starts.is.statement.its ∙ ap Some (is_open _ _ c.in-Open.ensures))

pub open_all-requires-clause-begins : goal.open_all-requires-clause-begins
open_all-requires-clause-begins g c =
    opens_first c.args.setting.now c.args.node c.args.place.now c.requires.starts.is c.requires.fits c.requires.ready
    c.requires.starts.starts c.in-Open.openings.now (is_open _ _ c.in-Open.ensures)

pub returns-in-Open-clause-reaches : goal.returns-in-Open-clause-reaches
returns-in-Open-clause-reaches g c =
    subst (λ (a : Act). Reaches (paths_of c.args.setting.now) a c.args.world.now.world
    (g.F.Files.state c.args.files.now) (g.F.Files.state c.open_all.new.files) c.open_all.result)
    (sym (is_open _ _ c.in-Open.ensures)) c.open_all.ensures.reaches

pub returns-in-Close-clause-reaches : goal.returns-in-Close-clause-reaches
returns-in-Close-clause-reaches g c =
    reaches_none (paths_of c.args.setting.now) (plain_act c.args.place.now.statement.now.act.now) c.args.world.now.world
    _ _ _ c.close_all.ensures.touches
    (close_met (last_of 0 (plain_act c.args.place.now.statement.now.act.now)) c.in-Close.closed.now _
    (ap (last_of 0) (is_close _ _ c.in-Close.ensures)))

pub returns-in-Other-clause-reaches : goal.returns-in-Other-clause-reaches
returns-in-Other-clause-reaches g c =
    reaches_none (paths_of c.args.setting.now) (plain_act c.args.place.now.statement.now.act.now) c.args.world.now.world
    _ _ _ (touches_stay (paths_of c.args.setting.now) makes_none c.args.world.now.world _)
    (never_met (last_of 0 (plain_act c.args.place.now.statement.now.act.now)) _ c.go.ensures.fine)

pub returns-in-Read-clause-reaches : goal.returns-in-Read-clause-reaches
returns-in-Read-clause-reaches g c =
    reaches_none (paths_of c.args.setting.now) (plain_act c.args.place.now.statement.now.act.now) c.args.world.now.world
    _ _ _
    (touches_known (paths_of c.args.setting.now) makes_none c.args.world.now.world _ _ _
    (touches_stay (paths_of c.args.setting.now) makes_none c.args.world.now.world (g.F.Files.state c.args.files.now))
    c.go_read.ensures.same)
    (read_met_last _ _ _ c.in-Read.ensures c.go_read.ensures.fault)

pub returns-in-Open-clause-takes : goal.returns-in-Open-clause-takes
returns-in-Open-clause-takes g c = λ sink budget steps start counted within stands.
    step_begins c.args.setting.now c.args.node c.args.place.now c.requires.starts budget steps c.args.step counted
    within start
    (outside (g.F.Files.state c.args.files.now) sink) c.args.world.now.world stands
    (outside (g.F.Files.state c.open_all.new.files) sink) c.open_all.new.world.world _
    (free_open c.in-Open.openings.now _ (is_open c.in-Open.openings _ c.in-Open.ensures))
    (c.open_all.ensures.leads sink budget)

pub returns-in-Close-clause-takes : goal.returns-in-Close-clause-takes
returns-in-Close-clause-takes g c = λ sink budget steps start counted within stands.
    step_begins c.args.setting.now c.args.node c.args.place.now c.requires.starts budget steps c.args.step counted
    within start
    (outside (g.F.Files.state c.args.files.now) sink) c.args.world.now.world stands
    (outside (g.F.Files.state c.close_all.new.files) sink) c.close_all.new.world.world _
    (free_close c.in-Close.closed.now _ (is_close c.in-Close.closed _ c.in-Close.ensures))
    (c.close_all.ensures.leads sink budget)

pub returns-in-Other-clause-takes : goal.returns-in-Other-clause-takes
returns-in-Other-clause-takes g c = λ sink budget steps start counted within stands.
    step_begins c.args.setting.now c.args.node c.args.place.now c.requires.starts budget steps c.args.step counted
    within start
    (outside (g.F.Files.state c.args.files.now) sink) c.args.world.now.world stands
    (outside (g.F.Files.state c.args.files.now) sink) c.go.new.world.world _
    (free_other _ c.in-Other.ensures) (c.go.ensures.leads _ budget)

pub returns-in-Other-clause-placed : goal.returns-in-Other-clause-placed
returns-in-Other-clause-placed g c =
    left_behind _ (paths_of c.args.setting.now) (g.F.Files.state c.args.files.now) _ c.args.world.now.world.files _
    c.go.ensures.places c.requires.placed

pub returns-in-Open-clause-still : goal.returns-in-Open-clause-still
returns-in-Open-clause-still g c = λ waits. open_first _ _ _ (is_open _ _ c.in-Open.ensures) waits

pub returns-in-Close-clause-still : goal.returns-in-Close-clause-still
returns-in-Close-clause-still g c = λ waits. close_first _ _ _ (is_close _ _ c.in-Close.ensures) waits

pub returns-in-Read-clause-still : goal.returns-in-Read-clause-still
returns-in-Read-clause-still g c = λ _. c.go_read.ensures.still

pub returns-in-Other-clause-still : goal.returns-in-Other-clause-still
returns-in-Other-clause-still g c = λ _. never_still _ _ c.go.ensures.fine

pub open_all-requires-clause-within : goal.open_all-requires-clause-within
open_all-requires-clause-within g c =
    own_within c.args.setting.now c.args.node c.args.place.now c.requires.starts.is c.requires.fits

pub close_all-requires-clause-within : goal.close_all-requires-clause-within
close_all-requires-clause-within g c =
    own_within c.args.setting.now c.args.node c.args.place.now c.requires.starts.is c.requires.fits

pub close_all-requires-clause-its : goal.close_all-requires-clause-its
close_all-requires-clause-its g c =
    subst (λ (n : ℕ). act_at (program_of c.args.setting.now) n ≡ Some (close_files c.in-Close.closed.now))
    c.requires.starts.is.number
    (c.requires.starts.is.statement.its ∙ ap Some (is_close _ _ c.in-Close.ensures))

pub go-requires-clause-uncalled : goal.go-requires-clause-uncalled
go-requires-clause-uncalled g c = uncalled_other _ c.in-Other.ensures
