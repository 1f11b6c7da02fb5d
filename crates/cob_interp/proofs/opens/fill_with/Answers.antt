use Rattle.std.proofs.Common.{ℕ, List, Some, ap, ◌∙◌}
use Rattle.cob_runs.specs.State.{with_files}
use Rattle.cob_world.specs.Calling.{refilled}
use Rattle.cob_interp.proofs.EmptyRooms.{fresh_filled}
use Rattle.cob_interp.proofs.opens.fill_with.Goals as goal

pub returns-clause-same : goal.returns-clause-same
returns-clause-same c =
    let w = c.args.world.now.world in
    c.set_content.ensures.value
    ∙ ap (λ (bytes : List ℕ). with_files w (refilled c.args.place (Some bytes) w.files)) c.requires.empty
    ∙ fresh_filled c.args.place w c.requires.fresh
